-- `mapper::write::cut_labels` meets its contract. The invariant: the labels of the entries before j, and the bits from `at` on, are the bits
-- from `start` on.
use Rattle.mapper.proofs.CutLoop.{Cutting}
use Rattle.mapper.proofs.write.cut_labels.Given as goal

abbrev pub invariant-loop-j : goal.invariant-loop-j
invariant-loop-j l = Cutting l.frame l.start l.entries.bits.now l.entries.places.now l.initial.labels l.labels l.at l.j
