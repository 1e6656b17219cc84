use native.Mathlib.Omega.{arith}
use Rattle.drive.proofs.Carrying.{carry_start, carry_step, carry_end}
use Rattle.drive.proofs.peaks.carry.Goals as goal

pub loop-i-init : goal.loop-i-init
loop-i-init c = carry_start _ _ _ _

pub loop-i-preserved : goal.loop-i-preserved
loop-i-preserved c = carry_step c.loop-i.invariant (omega arith) c.raised-peak.ensures

pub returns : goal.returns
returns c = carry_end c.loop-i.invariant (omega arith)
