-- `decisions::total_at` meets its contract. The invariant: the total and the costs of the entries from the index on are the whole, and the total has
-- 32 bits for each entry before it.
use Prim.Native.Nat.{◌+◌, ◌*◌, ◌^◌, ◌≤◌}
use mathlib.Core.Path.{◌≡◌}
use lib.ListN.{drop}
use Rattle.decisions.specs.Deciding.{total_at}
use Rattle.decisions.proofs.total_at.Given as goal

abbrev pub invariant-loop-place : goal.invariant-loop-place
invariant-loop-place l = (l.total + total_at l.costs.c0 (drop l.place-index l.places) ≡ total_at l.costs.c0 l.places) × (l.total ≤ 2 ^ 32 * l.place-index)
