-- `nearest::read_planned` meets its contract: refused by a coordinate, or a nearest frame.
use Prim.Native.Nat.{ℕ}
use mathlib.Core.Path.{◌≡◌, refl, sym, ◌∙◌}
use lib.ListN.{length, take, replicate}
use lib.Seq.{length-take-le}
use Rattle.nearest.proofs.WholeNearest.{points_few, same_points, range_refused, nearest_by, read_done}
use Rattle.nearest.proofs.read_planned.Goals as goal
use Rattle.nearest.proofs.read_planned.Goals.{Start}

-- the labels that are lent
labelled : (c : Start) → length (take (length c.args.points.xs.now) (replicate {A = ℕ} 4096 0)) ≡ length c.args.points.xs.now
labelled c = length-take-le _ (replicate 4096 0) (points_few c.requires.1)

pub first_outside-requires : goal.first_outside-requires
first_outside-requires c = same_points c.requires.1

pub returns-in-Some : goal.returns-in-Some
returns-in-Some c = λ T h. range_refused h (sym c.in-Some.is ∙ c.first_outside.ensures)

pub slice_bounds-labels-end : goal.slice_bounds-labels-end
slice_bounds-labels-end c = points_few c.requires.1

pub slice_bounds-labels-end-2 : goal.slice_bounds-labels-end-2
slice_bounds-labels-end-2 c = sym (labelled (goal.at.slice_bounds-labels-end-2 c).Start)

pub nearest_frame-requires : goal.nearest_frame-requires
nearest_frame-requires c =
    (c.requires.0, nearest_by c.requires.1 (sym c.first_outside.ensures ∙ c.in_default.is) _ (replicate 7689 0) (labelled (goal.at.nearest_frame-requires c).Start) refl)

pub returns : goal.returns
returns c =
    let range = sym c.first_outside.ensures ∙ c.in_default.is in
    λ T h. read_done h range c.nearest_frame.auto.work (c.nearest_frame.ensures T (nearest_by h range _ (replicate 7689 0) (labelled (goal.at.returns c).Start) refl))
