use Rattle.tally.proofs.Rows.{rows_none}
use Rattle.tally.proofs.wrong_bits.wrong_bits.Goals as goal

pub loop-row-init : goal.loop-row-init
loop-row-init c = rows_none _ _
