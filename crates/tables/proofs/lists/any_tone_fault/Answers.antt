use Rattle.std.proofs.Common.{refl}
use Rattle.tables.proofs.Scans.{any_none, any_more}
use Rattle.tables.proofs.lists.any_tone_fault.Goals as goal

pub loop-k-init : goal.loop-k-init
loop-k-init c = any_none _

pub loop-k-preserved : goal.loop-k-preserved
loop-k-preserved c = any_more _ c.loop-k.k-index c.loop-k.invariant refl
