-- `ordering::order::write_uncoded` meets its contract. The invariant: writing what is left of t and of its bits gives what the
-- whole gives.
use mathlib.Core.Path.{◌≡◌}
use lib.ListN.{drop}
use lib.Seq.{sets}
use Rattle.g9932.specs.Order.{bits_of}
use Rattle.ordering.proofs.order.write_uncoded.Given as goal

abbrev pub invariant-loop-i : goal.invariant-loop-i
invariant-loop-i l = record {
  tones : sets l.reordered_tones l.i (drop l.i l.tones) ≡ sets l.initial.reordered_tones 0 l.tones;
  bits : sets l.reordered_bits l.i (bits_of l.bits (drop l.i l.tones)) ≡ sets l.initial.reordered_bits 0 (bits_of l.bits l.tones);
}
