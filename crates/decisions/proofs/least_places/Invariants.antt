-- `decisions::least_places` meets its contract. The invariant: the places before i have the lowest bits and the cost of their nearest coset,
-- the others the first coset's cost, and the other cosets' costs stay.
use Rattle.decisions.specs.CostLists.{CosetsKept}
use Rattle.decisions.specs.Deciding.{LeastPlaces}
use Rattle.decisions.proofs.least_places.Given as goal

abbrev pub invariant-loop-i : goal.invariant-loop-i
invariant-loop-i l = record { least : LeastPlaces l.layouts l.initial.costs l.labels l.costs l.i; cosets : CosetsKept l.initial.costs l.costs }
