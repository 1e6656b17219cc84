-- `trellis::pairs::code_from` meets its contract. The invariant: as of `code_forced_pairs`, with a coder whose state is a number.
use Prim.Native.Nat.{◌+◌, ◌*◌}
use Rattle.trellis.proofs.CodeLoop.{CodesUpTo}
use Rattle.trellis.specs.Pairs.{coder_at}
use Rattle.frame.specs.Labels.{labels_at}
use Rattle.trellis.proofs.pairs.code_from.Given as goal

abbrev pub invariant-loop-n : goal.invariant-loop-n
invariant-loop-n l =
    CodesUpTo (coder_at l.initial.state.number l.initial.at) (coder_at l.state.number l.at) l.entries.bits.now l.frame (labels_at l.entries.places.now l.initial.labels) (labels_at l.entries.places.now l.labels) l.from (l.from + 2 * l.n)
