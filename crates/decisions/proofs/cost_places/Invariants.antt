-- `decisions::cost_places` meets its contract. The invariant: the places before i have their costs, and those from i on the costs
-- that they had.
use Rattle.g9932.specs.Sizes.{points_of}
use Rattle.decisions.specs.CostLists.{KeptFrom}
use Rattle.decisions.specs.Deciding.{Costed}
use Rattle.decisions.proofs.cost_places.Given as goal

abbrev pub invariant-loop-i : goal.invariant-loop-i
invariant-loop-i l = record { costs : Costed l.layouts (points_of l.points) l.costs l.i; behind : KeptFrom l.initial.costs l.i l.costs }
