-- `mapper::points::put_stored` meets its contract. The invariant: each place before i has its point, and the others are as they came.
use Prim.Native.Nat.{ℕ}
use mathlib.Core.List.{List}
use mathlib.Core.Path.{◌≡◌}
use lib.IntN.{ℤ}
use Rattle.constellation.specs.Stored.{stored_or}
use Rattle.g9932.specs.Sizes.{entry, Point, point_at}
use Rattle.mapper.proofs.PointLoop.{Putting}
use Rattle.mapper.proofs.points.put_stored.Given as goal

abbrev pub over : List ℕ → List ℕ → List ℤ → List ℤ → ℕ → Point → Type 0
over layouts entries xs ys j p = p ≡ stored_or (entry layouts j) (entry entries j) (point_at xs ys j)

abbrev pub invariant-loop-i : goal.invariant-loop-i
invariant-loop-i l = Putting (over l.layouts l.entries l.initial.xs l.initial.ys) l.initial.xs l.initial.ys l.xs l.ys l.i
