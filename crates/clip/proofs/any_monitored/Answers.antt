use Rattle.std.proofs.Common.{sym}
use Rattle.tables.proofs.Scans.{any_none, any_more}
use Rattle.clip.proofs.any_monitored.Goals as goal

pub loop-i-init : goal.loop-i-init
loop-i-init c = any_none _

pub loop-i-preserved : goal.loop-i-preserved
loop-i-preserved c = any_more _ c.loop-i.i c.loop-i.invariant (sym c.is_monitored-any.ensures)
