-- `wrong_bits::wrong_bits` meets its contract. The invariant: the lanes hold the wrong bits of the rows so far.
use Rattle.tally.specs.Lanes.{Rows}
use Rattle.tally.proofs.wrong_bits.wrong_bits.Given as goal

abbrev pub invariant-loop-row : goal.invariant-loop-row
invariant-loop-row l = Rows l.sent l.read l.row l.lanes
