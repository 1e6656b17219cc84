-- `decisions::nearest_points` meets its contract. The invariant: the places before i have their nearest points.
use Rattle.decisions.specs.Deciding.{PlacePoints}
use Rattle.g9932.specs.Sizes.{points_of}
use Rattle.decisions.proofs.nearest_points.Given as goal

abbrev pub invariant-loop-i : goal.invariant-loop-i
invariant-loop-i l = PlacePoints l.layouts (points_of l.points) l.labels l.near_xs l.near_ys l.i
