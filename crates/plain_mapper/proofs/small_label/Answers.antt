use Prim.Native.Nat.{◌^◌}
use mathlib.Core.Path.{◌≡◌, refl, sym, ap, ◌∙◌}
use native.Mathlib.Omega.{arith}
use Rattle.g9932.specs.Bits.{first}
use Rattle.g9932.specs.Plain.{small_point}
use Rattle.g9932.specs.Points.{same_point}
use Rattle.g9932.specs.Sizes.{Point, point}
use Rattle.g9932.proofs.Constellations.{points_equal}
use Rattle.g9932.proofs.Search.{first_more, first_at, first_end}
use Rattle.plain_mapper.proofs.Steps.{smallest_le, shl_one}
use Rattle.plain_mapper.proofs.small_label.Goals as goal
use Rattle.plain_mapper.proofs.small_label.Goals.{After-eq}

-- whether this label has the point
here : (c : After-eq) → c.eq.result ≡ same_point (small_point c.args.b c.loop-label.label) (point c.args.p.x c.args.p.y)
here c =
    let q = c.small_point.result in
    c.eq.ensures ∙ points_equal (point q.x q.y) (point c.args.p.x c.args.p.y) ∙ ap (λ (q : Point). same_point q (point c.args.p.x c.args.p.y)) c.small_point.ensures

pub loop-label-init : goal.loop-label-init
unfolding first
loop-label-init c = refl

pub returns-then-eq : goal.returns-then-eq
returns-then-eq c =
    let e = shl_one c.args.b 4294967296 (smallest_le c.args.b c.requires) (omega arith) in
    first_at _ c.loop-label.label (2 ^ c.args.b) c.loop-label.invariant (sym (here (goal.at.returns-then-eq c).After-eq) ∙ c.if-eq.true) (rw e at c.loop-label-test.true)

pub loop-label-preserved : goal.loop-label-preserved
loop-label-preserved c =
    first_more _ c.loop-label.label c.loop-label.invariant (sym (here (goal.at.loop-label-preserved c).After-eq) ∙ c.if-eq.false)

pub returns : goal.returns
returns c =
    let e = shl_one c.args.b 4294967296 (smallest_le c.args.b c.requires) (omega arith) in
    first_end _ c.loop-label.label (2 ^ c.args.b) c.loop-label.invariant (rw e at c.loop-label.auto.label-end) (rw e at c.loop-label-test.false)
