-- What reading finds by a layout (specs/Layouts), and the steps to it.
use Rattle.std.specs.Prelude.{Option}
use Rattle.std.specs.Prelude.{ℕ, ◌+◌, ◌-◌, ◌*◌, ◌/◌, ◌%◌, ◌^◌, ◌<◌, ◌≤◌, Bool, false, List, [], ◌∷◌, ◌≡◌, ℤ}
use Rattle.std.specs.Option.{option_map, is_some}
use Rattle.g9932.specs.Bits.{bits, num}
use Rattle.g9932.specs.Points.{label_of, same_point}
use Rattle.g9932.specs.Sizes.{Point, origin}
use Rattle.constellation.specs.Widened.{top_four, interleaved, coordinate_of}
use Rattle.constellation.specs.Reading.{in_grid}
use Rattle.constellation.specs.Layouts.{lower, upper, layout_of, silent_layout}

-- the weights that the pairs give
abbrev pub Power : ℕ → Type 0
Power m = (k : ℕ) × (k ≤ 6) × (m ≡ 2 ^ k)

abbrev pub IsLayout : ℕ → Type 0
IsLayout s = (k : ℕ) × (k ≤ 6) × (upper s ≡ 2 ^ k) × (lower s ≡ 2 ^ (6 - k))

-- the bits of a coordinate, if it is on the axis; h is the weight of its sign bit
pub record BitsOf (h : ℕ) (z : ℤ) (e : ℕ) : Type 0 where
  pub small : e < h
  pub own : (d : ℕ) → d < h → z ≡ coordinate_of h d → e ≡ d

-- bits with a 0 above each
abbrev pub spread : List Bool → List Bool
spread [] = []
spread (b ∷ l) = b ∷ false ∷ spread l

abbrev pub spread_byte : ℕ → ℕ
spread_byte e = num (spread (bits 8 e))

-- a lifted word: that of the bits of X and Y, j pairs of zeros below it
abbrev pub LiftedWord : ℕ → ℕ → ℕ → ℕ → Type 0
LiftedWord c x y w = (j : ℕ) → c ≡ 2 ^ j → w ≡ num (interleaved (bits 8 x) (bits 8 y)) * 2 ^ (2 * j)

-- the top three bits of the label whose word has these top six, and whether there is one
pub record TopsBy (layout six : ℕ) (on : Bool) (three : ℕ) : Type 0 where
  pub small : three < 8
  pub three_is : (q : ℕ) → q < 32 → top_four q ≡ six / 4 → three ≡ q / 4
  pub on_is : (b : ℕ) → 1 ≤ b → b ≤ 15 → layout ≡ layout_of b → (b < 4 → six % 4 ≡ 0) → on ≡ in_grid b six

-- the label with k pairs of these top bits and the plain bits of the word v, from the lifted word
abbrev pub LoweredLabel : ℕ → ℕ → ℕ → ℕ → Type 0
LoweredLabel m three w l = (k v : ℕ) → k ≤ 6 → m ≡ 2 ^ k → w ≡ v * 2 ^ (2 * (6 - k)) → l ≡ three * 2 ^ (2 * k) + v % 2 ^ (2 * k)

-- the label of a point, by the layout of b bits; a silent tone's point is the origin
pub record Demaps (layout : ℕ) (p : Point) (r : Option ℕ) : Type 0 where
  pub sought : (b : ℕ) → 1 ≤ b → b ≤ 15 → layout ≡ layout_of b → r ≡ option_map num (label_of b p)
  pub silent : layout ≡ silent_layout → is_some r ≡ same_point p origin
