-- `ordering::order::place_others` meets its contract. The invariant: writing the two lists of the tones left, each from its
-- cursor, gives what the whole lists give from the start.
use Rattle.ordering.proofs.Placing.{OthersLeft}
use Rattle.ordering.proofs.order.place_others.Given as goal

abbrev pub invariant-loop-k : goal.invariant-loop-k
invariant-loop-k l = OthersLeft l.bits l.tones l.from l.initial.reordered_tones l.initial.reordered_bits l.reordered_tones l.reordered_bits l.other l.at l.k-index
