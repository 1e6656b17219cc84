-- `drive::peaks::raised` meets its contract.
use Rattle.drive.proofs.Sizes.{raised_here, raised_not}
use Rattle.drive.proofs.peaks.raised.Goals as goal

pub returns-then-peak-size : goal.returns-then-peak-size
returns-then-peak-size c = raised_here c.larger_of-size.ensures c.if-peak-size.true

pub returns : goal.returns
returns c = raised_not c.larger_of-size.ensures c.if-peak-size.false
