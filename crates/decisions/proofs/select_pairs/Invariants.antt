-- `decisions::select_pairs` meets its contract. The invariant: the metrics are the least costs of the pairs from j on, and the survivors of
-- these pairs give them.
use Prim.Native.Nat.{◌-◌, ◌+◌, ◌*◌, ◌/◌, ◌%◌, ◌≤◌}
use mathlib.Core.List.{List}
use lib.ListN.{length, drop}
use Rattle.cosets.specs.Meters.{Meter}
use Rattle.decisions.specs.Deciding.{lone_in, MeterCosts, Selected}
use Rattle.decisions.proofs.select_pairs.Given as goal

abbrev pub invariant-loop-j : goal.invariant-loop-j
invariant-loop-j l = (length l.places % 2 ≤ l.j) × (l.j ≤ (length l.places + 1) / 2) × ((ms : List Meter) → MeterCosts ms l.shared_from.0 l.places l.costs → Selected (drop (2 * l.j - lone_in l.places) ms) l.j l.survivors l.metric)
