-- The stored points of 1 to 8 bits, and how a layout (specs/Layouts) finds one.
use Rattle.std.specs.Prelude.{ℕ, ◌+◌, ◌-◌, ◌*◌, ◌/◌, ◌%◌, ◌^◌, ◌≤◌, ◌<◌, Bool, cond, List, ◌≡◌, eqb, ltb}
use Rattle.std.proofs.Math.IntN.{sub_ℕ}
use Rattle.g9932.specs.Bits.{bits}
use Rattle.g9932.specs.Points.{point_of}
use Rattle.g9932.specs.Sizes.{Point, point, entry}
use Rattle.constellation.specs.Layouts.{layout_of, silent_layout}

-- the point that an entry holds: X + 16 in its lower byte, Y + 16 in its upper one
abbrev pub stored_point : ℕ → Point
stored_point e = point (sub_ℕ (e % 256) 16) (sub_ℕ (e / 256) 16)

-- where the points of b bits begin: before them stand 2 + 4 + 8 and so on
abbrev pub first_entry : ℕ → ℕ
first_entry b = 2 ^ b - 2

-- a table of all points of 1 to 8 bits, as the mapping rule has them
pub record Stored (t : List ℕ) : Type 0 where
  pub rule : (b l : ℕ) → 1 ≤ b → b ≤ 8 → l < 2 ^ b → stored_point (entry t (first_entry b + l)) ≡ point_of b (bits b l)

-- ---- by a layout

-- a layout of 1 to 8 bits, or a silent tone's: bit 15 left out, it is below that of 9 bits
abbrev pub is_stored : ℕ → Bool
is_stored s = ltb (s % 32768) (layout_of 9)

-- the place of a label's point in the table; some place where it has none
pub record EntryOf (s l e : ℕ) : Type 0 where
  pub inside : e < 510
  pub at : (b : ℕ) → 1 ≤ b → b ≤ 8 → s ≡ layout_of b → l < 2 ^ b → e ≡ first_entry b + l

-- (0, 0), which a silent tone has, as an entry would hold it
abbrev pub origin_entry : ℕ
origin_entry = 256 * 16 + 16

-- the entry's point for 1 to 8 bits, (0, 0) for a silent tone; else the point that stands there
abbrev pub stored_or : ℕ → ℕ → Point → Point
stored_or s e p = cond (is_stored s) (stored_point (cond (eqb s silent_layout) origin_entry e)) p
