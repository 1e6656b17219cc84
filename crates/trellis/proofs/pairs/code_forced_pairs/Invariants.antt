-- `trellis::pairs::code_forced_pairs` meets its contract. The invariant: the bits of the labels so far, with what the pairs left send from
-- the state and the frame bits left, are the whole, and fewer than six entries are left.
use Rattle.trellis.proofs.CodeLoop.{CodesUpTo}
use Rattle.frame.specs.Labels.{labels_at}
use lib.ListN.{length}
use Prim.Native.Nat.{◌+◌, ◌≤◌}
use Rattle.trellis.proofs.pairs.code_forced_pairs.Given as goal

abbrev pub invariant-loop-i : goal.invariant-loop-i
invariant-loop-i l =
    record {
      up_to : CodesUpTo l.initial.k l.k l.entries.bits.now l.frame (labels_at l.entries.places.now l.initial.labels) (labels_at l.entries.places.now l.labels) l.initial.i l.i;
      last_two : length l.entries.bits.now ≤ l.i + 5;
    }
