-- `mapper::points::look_up` meets its contract. The invariant: each entry before i is what the table has, the others are as they came.
use Prim.Native.Nat.{ℕ}
use mathlib.Core.List.{List}
use mathlib.Core.Path.{◌≡◌}
use Rattle.g9932.specs.Sizes.{entry}
use Rattle.mapper.proofs.BlockLoops.{Making}
use Rattle.mapper.proofs.points.look_up.Given as goal

abbrev pub looked : List ℕ → List ℕ → ℕ → ℕ → Type 0
looked table entries j e = e ≡ entry table (entry entries j)

abbrev pub invariant-loop-e : goal.invariant-loop-e
invariant-loop-e l = Making (looked l.table l.initial.entries) l.initial.entries l.entries l.e-index
