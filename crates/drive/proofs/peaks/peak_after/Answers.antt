-- `drive::peaks::peak_after` meets its contract: a block with no larger number leaves the peak as it is.
use Rattle.drive.proofs.Carrying.{passed_over}
use Rattle.drive.proofs.peaks.peak_after.Goals as goal

pub returns : goal.returns
returns c = passed_over _ (rw c.if-some_above.false at c.some_above.ensures)
