-- `nearest::nearest_frame` meets its contract: the decided labels are those of a nearest frame.
use Rattle.nearest.proofs.PlannedReading.{decide_again, planned_read}
use native.Mathlib.Omega.{arith}
use mathlib.Core.Path.{◌∙◌}
use Rattle.nearest.proofs.nearest_frame.Goals as goal

pub returns : goal.returns
returns c =
    let f = c.set_filler-after.auto.labels in
    let bytes = c.slice_known-8-1.given in
    λ T s. planned_read s _ _ (c.decide_labels-total.auto.labels ∙ f) (c.decide_labels-total.ensures _ (decide_again f s.decide)) c.frame_of_path.ensures c.frame_of_path.auto.held
    c.set_filler-after.ensures (λ k i. omega (arith, bytes k)) c.copy.ensures
