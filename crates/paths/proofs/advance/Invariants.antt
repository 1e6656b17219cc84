-- `paths::advance` meets its contract. The invariant: the states of the first g groups have their metrics and survivors, and the survivors of
-- later pairs are as they were.
use Rattle.paths.proofs.Metrics.{Stored, below}
use Rattle.paths.proofs.advance.Given as goal

abbrev pub invariant-loop-g : goal.invariant-loop-g
invariant-loop-g l = Stored l.old l.edges l.late l.initial.survivors l.at (below l.g) l.new l.survivors
