-- `ordering::order::place_ones` meets its contract. The invariant: writing the 1-bit tones left from the cursor gives what writing
-- them all gives from the start.
use Rattle.ordering.proofs.Placing.{OnesLeft}
use Rattle.ordering.proofs.order.place_ones.Given as goal

abbrev pub invariant-loop-k : goal.invariant-loop-k
invariant-loop-k l = OnesLeft l.bits l.tones l.initial.one l.initial.reordered_tones l.reordered_tones l.one l.k-index
