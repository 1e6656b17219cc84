-- `mapper::points::put_points` meets its contract. The invariant: each place before i has its point.
use Rattle.mapper.proofs.BlockLoops.{Covered}
use Rattle.mapper.proofs.points.put_points.Given as goal

abbrev pub invariant-loop-i : goal.invariant-loop-i
invariant-loop-i l = Covered l.layouts l.labels l.initial.xs l.initial.ys l.xs l.ys l.entries l.i
