-- `nearest::range::any_outside` meets its contract. The invariant: where `any` is false, no place before i has a coordinate out of range.
--
use Rattle.std.specs.Prelude.{None}
use Prim.Native.Nat.{◌≤◌}
use mathlib.Core.Path.{◌≡◌}
use mathlib.Core.Bool.{false}
use lib.ListN.{length}
use Rattle.g9932.specs.Sizes.{points}
use Rattle.g9932.specs.Nearest.{range_test}
use Rattle.g9932.specs.Bits.{first}
use Rattle.nearest.proofs.range.any_outside.Given as goal

abbrev pub invariant-loop-i : goal.invariant-loop-i
invariant-loop-i l = (l.i ≤ length l.xs) × (l.any ≡ false → first (range_test (points l.fn.points.xs.now l.fn.points.ys.now)) l.i ≡ None)
