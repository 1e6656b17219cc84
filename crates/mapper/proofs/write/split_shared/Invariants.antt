-- `mapper::write::split_shared` meets its contract. The invariant: the labels before i, and those from i on split, are what is asked.
use Rattle.mapper.specs.Writing.{split_ones}
use Rattle.mapper.proofs.SharedLabels.{Changing}
use Rattle.mapper.proofs.write.split_shared.Given as goal

abbrev pub invariant-loop-i : goal.invariant-loop-i
invariant-loop-i l = Changing split_ones l.initial.i l.initial.labels l.labels l.i
