-- `mapper::read::collect_labels` meets its contract. The invariant: the bits put, and those of the labels from entry j on, are all bits.
use Rattle.mapper.proofs.CollectLoop.{Collecting}
use Rattle.mapper.proofs.read.collect_labels.Given as goal

abbrev pub invariant-loop-j : goal.invariant-loop-j
invariant-loop-j l = Collecting l.initial.w l.entries.bits.now l.entries.places.now l.labels l.initial.frame l.frame l.w l.j
