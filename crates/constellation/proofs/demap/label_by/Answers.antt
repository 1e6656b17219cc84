-- `constellation::demap::label_by` meets its contract: one label is left, and the grid tells whether it is the point's.
use Rattle.std.proofs.Common.{rules}
use Prim.Native.Nat.{◌*◌}
use mathlib.Core.Path.{sym, ap₂, ◌∙◌, subst}
use lib.IntN.{ℤ}
use native.Mathlib.Omega.{arith}
use mir.ValLaws.{to_z-of_z}
use mir.Syntax.{w16}
use Rattle.g9932.specs.Points.{same_point}
use Rattle.g9932.specs.Sizes.{point, origin}
use Rattle.g9932.proofs.Constellations.{points_equal}
use Rattle.constellation.specs.DemapByLayout.{BitsOf, Demaps}
use Rattle.constellation.specs.Layouts.{upper}
use Rattle.constellation.proofs.DemapByLayout.{upper_fits, in_width, marked, silent_law, demaps_law}
use Rattle.constellation.proofs.demap.label_by.Goals as goal

pub coordinate_of-requires : goal.coordinate_of-requires
coordinate_of-requires c =
    let f = upper_fits c.args.layout c.requires in
    (f.0, f.1, omega (arith, f, c.axis_bits-ex.ensures.small))

pub coordinate_of-requires-2 : goal.coordinate_of-requires-2
coordinate_of-requires-2 c =
    let f = upper_fits c.args.layout c.requires in
    (f.0, f.1, omega (arith, f, c.axis_bits-ey.ensures.small))

pub lifted_word-word-requires : goal.lifted_word-word-requires
lifted_word-word-requires c =
    (in_width c.args.layout c.axis_bits-ex.result c.requires c.axis_bits-ex.ensures.small, in_width c.args.layout c.axis_bits-ey.result c.requires c.axis_bits-ey.ensures.small)

pub returns-then-one-layout-eq1 : goal.returns-then-one-layout-eq1
returns-then-one-layout-eq1 c =
    let a = c.args in
    subst (Demaps a.layout (point a.p.x a.p.y)) (sym c.then_some.ensures)
    (silent_law a.layout 0 (point a.p.x a.p.y) c.eq.result c.if-one-layout-eq1.true (c.eq.ensures ∙ points_equal (point a.p.x a.p.y) origin))

pub returns : goal.returns
returns c =
    let a = c.args in
    let p = c.coordinate_of.result in
    let q = c.coordinate_of-2.result in
    let h = 4 * upper a.layout in
    let ex : BitsOf h a.p.x c.axis_bits-ex.result = rw (to_z-of_z w16 a.p.x (search rules)) at c.axis_bits-ex.ensures in
    let ey : BitsOf h a.p.y c.axis_bits-ey.result = rw (to_z-of_z w16 a.p.y (search rules)) at c.axis_bits-ey.ensures in
    let e =
    rw (to_z-of_z w16 p (record { sfits = c.coordinate_of.type_inv }), to_z-of_z w16 q (record { sfits = c.coordinate_of-2.type_inv }))
    at c.eq-2.ensures in
    let same =
    e ∙ points_equal (point p q) (point a.p.x a.p.y) ∙ ap₂ (λ (i j : ℤ). same_point (point i j) (point a.p.x a.p.y)) c.coordinate_of.ensures c.coordinate_of-2.ensures in
    subst (Demaps a.layout (point a.p.x a.p.y)) (sym c.then_some-2.ensures)
    (demaps_law a.layout a.p.x a.p.y _ _ c.lifted_word-word.result c.top_of-t.result.three c.lowered_label-label.result c.pick.result c.eq-2.result c.top_of-t.result.on ex ey
    c.lifted_word-word.ensures c.top_of-t.ensures c.lowered_label-label.ensures same c.pick.ensures (λ s. c.if-one-layout-eq1.false (marked a.layout s)))
