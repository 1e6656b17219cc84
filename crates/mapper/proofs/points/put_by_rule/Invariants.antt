-- `mapper::points::put_by_rule` meets its contract. The invariant: each place before i has its point.
use Prim.Native.Nat.{ℕ}
use mathlib.Core.List.{List}
use Rattle.constellation.specs.MapByLayout.{MapsByRule}
use Rattle.g9932.specs.Sizes.{entry, Point}
use Rattle.mapper.proofs.PointLoop.{Putting}
use Rattle.mapper.proofs.points.put_by_rule.Given as goal

abbrev pub ruled : List ℕ → List ℕ → ℕ → Point → Type 0
ruled layouts labels j p = MapsByRule (entry layouts j) (entry labels j) p

abbrev pub invariant-loop-i : goal.invariant-loop-i
invariant-loop-i l = Putting (ruled l.layouts l.labels) l.initial.xs l.initial.ys l.xs l.ys l.i
