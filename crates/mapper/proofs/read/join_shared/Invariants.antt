-- `mapper::read::join_shared` meets its contract. The invariant: the labels before i, and those from i on joined, are what is asked; those
-- from i on have one bit.
use Rattle.mapper.specs.Reading.{join_ones, JoinNeeds}
use Rattle.mapper.proofs.SharedLabels.{Changing}
use Rattle.mapper.proofs.read.join_shared.Given as goal

abbrev pub invariant-loop-i : goal.invariant-loop-i
invariant-loop-i l = JoinNeeds l.labels l.i × Changing join_ones l.initial.i l.initial.labels l.labels l.i
