-- `drive::peaks::carry` meets its contract. The invariant: the peak is that of the places before i.
use Rattle.drive.proofs.Carrying.{CarriedTo}
use Rattle.drive.proofs.peaks.carry.Given as goal

abbrev pub invariant-loop-i : goal.invariant-loop-i
invariant-loop-i l = CarriedTo l.initial.peak l.xs l.ys l.from l.peak l.i
