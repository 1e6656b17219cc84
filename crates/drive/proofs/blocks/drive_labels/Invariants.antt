-- `drive::blocks::drive_labels` meets its contract. The invariant: the lists have the numbers of the places before i, and the peak is theirs.
use Rattle.drive.proofs.BlockNumbers.{DrivenTo}
use Rattle.drive.proofs.blocks.drive_labels.Given as goal

abbrev pub invariant-loop-i : goal.invariant-loop-i
invariant-loop-i l = DrivenTo l.layouts l.labels l.gains l.initial.xs l.xs l.ys l.entries l.points_x l.points_y l.peak l.i
