-- A row of Table 10-3: one word for the labels from one up to another.
use Rattle.std.specs.Prelude.{None}
use Prim.Native.Nat.{ℕ, ◌≤◌, ◌<◌}
use mathlib.Core.Bool.{Bool, false, not, ◌&&◌}
use mathlib.Core.Path.{◌≡◌}
use borrow.Author.Tests.{eqb-true, le-leb, not-false}
use lib.Dec.{eqb, leb}
use lib.ListN.{get_or}
use Rattle.g9932.specs.Bits.{first}
use Rattle.g9932.specs.Points.{table10_3}
use Rattle.g9932.proofs.Search.{first_no}

-- a label of the row that has another word
abbrev other : ℕ → ℕ → ℕ → Bool
other w from l = leb from l && not (eqb (get_or table10_3 l 0) w)

pub row : (w from end : ℕ) → first (other w from) end ≡ None → (l : ℕ) → from ≤ l → l < end → get_or table10_3 l 0 ≡ w
row w from end none l h k =
    let n : not (eqb (get_or table10_3 l 0) w) ≡ false = rw (le-leb from l h) at (first_no (other w from) end none l k) in
    eqb-true (get_or table10_3 l 0) w (not-false (eqb (get_or table10_3 l 0) w) n)
