-- `decoder::read_from` meets its contract. The invariant: every pair before entry from + 2 n obeys the code, and their frame bits,
-- before the reading of the pairs left, make the whole reading.
use denote.Param.{number}
use Rattle.decoder.proofs.DecodeLoop.{Decoding}
use Rattle.decoder.specs.contracts.read_from.{CHECK-type}
use Prim.Native.Nat.{◌+◌, ◌*◌}
use Rattle.frame.specs.Labels.{labels_at}
use Rattle.decoder.proofs.read_from.Given as goal

abbrev pub invariant-loop-n : goal.invariant-loop-n
invariant-loop-n g l = Decoding (CHECK-type (number g.row.CHECK)) l.initial.k l.k l.entries.bits.now (labels_at l.entries.places.now l.labels) l.initial.frame l.frame l.from (l.from + 2 * l.n)
