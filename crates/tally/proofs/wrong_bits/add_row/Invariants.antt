-- `wrong_bits::add_row` meets its contract. The invariant: j bytes of the row are counted (`Part`).
use Rattle.tally.proofs.Rows.{Part}
use Rattle.tally.proofs.wrong_bits.add_row.Given as goal

abbrev pub invariant-loop-j : goal.invariant-loop-j
invariant-loop-j l = Part l.sent l.read l.row l.j l.lanes
