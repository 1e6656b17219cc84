-- `nearest::range::search_outside` meets its contract. The invariant: nothing was found before i.
use Rattle.std.specs.Prelude.{None}
use Prim.Native.Nat.{◌≤◌}
use mathlib.Core.Path.{◌≡◌}
use lib.ListN.{length}
use Rattle.g9932.specs.Sizes.{points}
use Rattle.g9932.specs.Nearest.{range_test}
use Rattle.g9932.specs.Bits.{first}
use Rattle.nearest.proofs.range.search_outside.Given as goal

abbrev pub invariant-loop-i : goal.invariant-loop-i
invariant-loop-i l = (l.i ≤ length l.xs) × (first (range_test (points l.xs l.ys)) l.i ≡ None)
