use native.Mathlib.Omega.{arith}
use mathlib.Core.Path.{◌≡◌, sym, ◌∙◌}
use mathlib.Core.Bool.{◌||◌}
use Rattle.g9932.specs.Sizes.{points}
use Rattle.g9932.specs.Nearest.{range_test}
use Rattle.g9932.proofs.Search.{first_none, first_more, first_at}
use Rattle.nearest.proofs.Ranges.{range_tested}
use Rattle.nearest.proofs.range.search_outside.Goals as goal
use Rattle.nearest.proofs.range.search_outside.Goals.{After-is_outside-in-loop-i}

-- what the code tests is the rule's test
tested : (c : After-is_outside-in-loop-i) → c.is_outside.result || c.is_outside-in-loop-i.result ≡ range_test (points c.args.points.xs.now c.args.points.ys.now) c.loop-i.i
tested c =
    let i = c.loop-i.i in
    let x = c.is_outside.ensures in
    let y = c.is_outside-in-loop-i.ensures in
    range_tested c.args.points.xs.now c.args.points.ys.now i (omega arith) c.requires x y (record { sfits = c.is_outside-arg-1.given }) (record { sfits = c.is_outside-arg-in-loop-i-1.given })

pub loop-i-init : goal.loop-i-init
loop-i-init c = (omega arith, first_none _)

pub returns-then-is_outside : goal.returns-then-is_outside
returns-then-is_outside c = first_at _ _ _ c.loop-i.invariant.1 (sym (tested (goal.at.returns-then-is_outside c).After-is_outside-in-loop-i) ∙ c.if-is_outside.true) (omega arith)

pub loop-i-preserved : goal.loop-i-preserved
loop-i-preserved c = (omega arith, first_more _ _ c.loop-i.invariant.1 (sym (tested (goal.at.loop-i-preserved c).After-is_outside-in-loop-i) ∙ c.if-is_outside.false))
