use native.Mathlib.Omega.{arith}
use Rattle.drive.proofs.Carrying.{told_step}
use Rattle.drive.proofs.peaks.some_above.Goals as goal

pub loop-i-preserved : goal.loop-i-preserved
loop-i-preserved c = told_step c.loop-i.invariant (omega arith)
