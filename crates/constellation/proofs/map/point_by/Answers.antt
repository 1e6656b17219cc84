-- `constellation::map::point_by` meets its contract: the word of the label at the top of sixteen bits, and each half of it scaled back.
use native.Mathlib.Omega.{arith}
use Prim.Native.Nat.{ℕ, ◌/◌}
use mathlib.Core.Path.{ap, ◌∙◌}
use mir.Syntax.{w16}
use mir.ValLaws.{to_z-of_z}
use Rattle.constellation.specs.Layouts.{upper}
use Rattle.constellation.specs.MapByLayout.{widened_lifted, scaled_coordinate}
use Rattle.constellation.proofs.MapByLayout.{bits_256, Liftable, liftable, liftable_label, liftable_upper, maps_by_rule}
use Rattle.constellation.proofs.map.point_by.Goals as goal
use Rattle.constellation.proofs.map.point_by.Goals.{Start}

fit : (c : Start) → Liftable c.args.layout c.args.label
fit c = liftable c.args.layout c.args.label c.requires

pub lifted_label-requires : goal.lifted_label-requires
lifted_label-requires c = liftable_label (fit c)

pub scaled_coordinate-requires : goal.scaled_coordinate-requires
scaled_coordinate-requires c =
    (rw c.evens.ensures (bits_256 (c.widened_lifted-w.result / 2)), (liftable_upper (fit (goal.at.scaled_coordinate-requires c).Start)).0, (liftable_upper (fit (goal.at.scaled_coordinate-requires c).Start)).1)

pub scaled_coordinate-requires-2 : goal.scaled_coordinate-requires-2
scaled_coordinate-requires-2 c =
    (rw c.evens-2.ensures (bits_256 c.widened_lifted-w.result), (liftable_upper (fit (goal.at.scaled_coordinate-requires-2 c).Start)).0, (liftable_upper (fit (goal.at.scaled_coordinate-requires-2 c).Start)).1)

pub returns : goal.returns
returns c =
    let m = upper c.args.layout in
    let x = to_z-of_z w16 c.scaled_coordinate.result (record { sfits = c.scaled_coordinate.type_inv }) ∙ c.scaled_coordinate.ensures ∙ ap (scaled_coordinate m) c.evens.ensures in
    let y = to_z-of_z w16 c.scaled_coordinate-2.result (record { sfits = c.scaled_coordinate-2.type_inv }) ∙ c.scaled_coordinate-2.ensures ∙ ap (scaled_coordinate m) c.evens-2.ensures in
    rw (x, y)
    (maps_by_rule c.args.layout c.args.label c.widened_lifted-w.result (omega arith) (c.widened_lifted-w.ensures ∙ ap (λ (a : ℕ). widened_lifted a) c.lifted_label.ensures))
