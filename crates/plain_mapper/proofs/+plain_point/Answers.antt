-- `plain_mapper::plain_point` meets its contract: the bit count falls by two (proofs/Steps).
use Prim.Native.Nat.{ℕ, ◌-◌, ◌/◌, ◌%◌}
use mathlib.Core.Path.{sym, ap, ◌∙◌, subst}
use native.Mathlib.Omega.{arith}
use Rattle.g9932.specs.Plain.{block_corner, in_block}
use Rattle.g9932.specs.Sizes.{point}
use Rattle.g9932.proofs.Plain.{small_points}
use Rattle.plain_mapper.specs.Bounds.{Within}
use Rattle.plain_mapper.proofs.Steps.{larger, point_step, quarter_below, plain_within, block_within}
use Rattle.plain_mapper.proofs.+plain_point.Goals as goal
use Rattle.plain_mapper.proofs.+plain_point.Goals.{After-plain_point-n}

pub returns-then-smallest : goal.returns-then-smallest
returns-then-smallest t c =
    c.small_point.ensures ∙ sym (small_points c.args.b (sym c.smallest.ensures ∙ c.if-smallest.true) c.args.label)

pub plain_point-n-requires : goal.plain_point-n-requires
plain_point-n-requires t c =
    let h = larger c.args.b c.requires.0 (sym c.smallest.ensures ∙ c.if-smallest.false) in
    (omega (arith, h, c.decreases), (omega (arith, h), omega (arith, c.requires.1), quarter_below c.args.b c.args.label (omega (arith, h)) c.requires.2))

inner_within : (t : ℕ) (c : After-plain_point-n t) → Within 1023 (point c.plain_point-n.result.x c.plain_point-n.result.y)
inner_within t c =
    let h = larger c.args.b c.requires.0 (sym c.smallest.ensures ∙ c.if-smallest.false) in
    subst (Within 1023) (sym c.plain_point-n.ensures)
    (plain_within (c.args.b - 2) (c.args.label / 4) (omega (arith, h)) (omega (arith, c.requires.1)) (quarter_below c.args.b c.args.label (omega (arith, h)) c.requires.2))

pub block_corner-requires : goal.block_corner-requires
block_corner-requires t c = inner_within t c

pub in_block-requires : goal.in_block-requires
in_block-requires t c =
    let n = c.plain_point-n.result in
    (omega arith, subst (Within 4095) (sym c.block_corner.ensures) (block_within (point n.x n.y) (inner_within t (goal.at.in_block-requires t c).After-plain_point-n)))

pub returns : goal.returns
returns t c =
    let n = sym c.smallest.ensures ∙ c.if-smallest.false in
    let h = larger c.args.b c.requires.0 n in
    c.in_block.ensures ∙ ap (in_block (c.args.label % 4)) (c.block_corner.ensures ∙ ap block_corner c.plain_point-n.ensures)
    ∙ sym (point_step c.args.b c.args.label (omega (arith, h)) n)
