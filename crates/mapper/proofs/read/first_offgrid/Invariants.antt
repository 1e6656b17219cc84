-- `mapper::read::first_offgrid` meets its contract. The invariant: each point before i has a label.
use Prim.Native.Nat.{ℕ, ◌≤◌, ◌<◌}
use lib.ListN.{length}
use Rattle.mapper.specs.Reading.{LabelIs}
use Rattle.g9932.specs.Sizes.{entry, point_at}
use Rattle.mapper.proofs.read.first_offgrid.Given as goal

abbrev pub invariant-loop-i : goal.invariant-loop-i
invariant-loop-i live = (live.i ≤ length live.points.xs.now) × ((k : ℕ) → k < live.i → (l : ℕ) × LabelIs (entry live.layouts k) (point_at live.points.xs.now live.points.ys.now k) l)
