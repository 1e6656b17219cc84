-- `drive::peaks::some_above` meets its contract. The invariant: where none is told, no number before place i is larger.
use Rattle.drive.proofs.Carrying.{ToldTo}
use Rattle.drive.proofs.peaks.some_above.Given as goal

abbrev pub invariant-loop-i : goal.invariant-loop-i
invariant-loop-i l = ToldTo l.xs l.ys l.size l.above l.i
