-- `mapper::points::find_entries` meets its contract. The invariant: each entry before i is found.
use Prim.Native.Nat.{ℕ}
use mathlib.Core.List.{List}
use Rattle.constellation.specs.Stored.{EntryOf}
use Rattle.g9932.specs.Sizes.{entry}
use Rattle.mapper.proofs.BlockLoops.{Making}
use Rattle.mapper.proofs.points.find_entries.Given as goal

abbrev pub found : List ℕ → List ℕ → ℕ → ℕ → Type 0
found layouts labels j e = EntryOf (entry layouts j) (entry labels j) e

abbrev pub invariant-loop-i : goal.invariant-loop-i
invariant-loop-i l = Making (found l.layouts l.labels) l.initial.entries l.entries l.i
