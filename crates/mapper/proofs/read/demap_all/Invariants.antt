-- `mapper::read::demap_all` meets its contract. The invariant: where `all` is true, each place before i has its point's label; else one of
-- these points is off.
use Rattle.mapper.proofs.PointLoop.{Demapping}
use Rattle.mapper.proofs.read.demap_all.Given as goal

abbrev pub invariant-loop-i : goal.invariant-loop-i
invariant-loop-i l = Demapping l.layouts l.points.xs.now l.points.ys.now l.labels l.all l.i
