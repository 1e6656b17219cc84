-- The point of a label by a layout (specs/Layouts), and the steps to it.
use Rattle.std.specs.Prelude.{ℕ, ◌+◌, ◌*◌, ◌/◌, ◌%◌, ◌^◌, ◌≤◌, ◌<◌, ◌≡◌, ℤ}
use Rattle.g9932.specs.Bits.{bits}
use Rattle.g9932.specs.Points.{point_of}
use Rattle.g9932.specs.Sizes.{Point, origin}
use Rattle.constellation.specs.Layouts.{layout_of, silent_layout}
use Rattle.constellation.specs.Widened.{top_four, coordinate_of}

-- the label goes with the layout; a silent tone's is two drawn bits, which do not count
pub data Mappable (s l : ℕ) : Type 0 where
  label : (b : ℕ) → 1 ≤ b → b ≤ 15 → s ≡ layout_of b → l < 2 ^ b → Mappable s l
  silent : s ≡ silent_layout → l < 4 → Mappable s l

-- the point of a label, by the layout of b bits; a silent tone's is the origin
pub record MapsTo (s l : ℕ) (p : Point) : Type 0 where
  pub tone : (b : ℕ) → 1 ≤ b → b ≤ 15 → s ≡ layout_of b → l < 2 ^ b → p ≡ point_of b (bits b l)
  pub silent : s ≡ silent_layout → p ≡ origin

-- the same from 9 bits on, where the table has no points
abbrev pub MapsByRule : ℕ → ℕ → Point → Type 0
MapsByRule s l p = (b : ℕ) → 9 ≤ b → b ≤ 15 → s ≡ layout_of b → l < 2 ^ b → p ≡ point_of b (bits b l)

-- ---- the steps of the code

-- a label with its top bit in bit 15, m being 4 to the (6 less the pairs)
abbrev pub lifted_label : ℕ → ℕ → ℕ
lifted_label m l = 2 * (l * m)

-- the word of a lifted label
abbrev pub widened_lifted : ℕ → ℕ
widened_lifted a = 4096 * top_four (a / 2048) + a / 2 % 4096

-- a coordinate of bits at the top of eight, m being 2 to the pairs
abbrev pub scaled_coordinate : ℕ → ℕ → ℤ
scaled_coordinate m e = coordinate_of (4 * m) (e * m / 64)
