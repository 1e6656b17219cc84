-- What reading a point goes by.
use Rattle.std.specs.Prelude.{Option, None, Some}
use Rattle.std.specs.Prelude.{Bool, true, false, cond, ◌≡◌, ℕ, ◌+◌, ◌*◌, ◌/◌, ◌%◌, ◌^◌, ◌<◌, eqb, ltb}
use Rattle.g9932.specs.Bits.{first}
use Rattle.constellation.specs.Widened.{top_four, widened_label, label_word}

-- l is the only label with k pairs whose word can be w
abbrev pub NarrowedWord : ℕ → ℕ → ℕ → Type 0
NarrowedWord k w l = (m : ℕ) → m < 2 ^ (2 * k + 3) → w ≡ widened_label k m → l ≡ m

-- the label of b bits, from its mapping label
abbrev pub own_label : ℕ → ℕ → ℕ
own_label b l = cond (ltb b 2) (l % 2) l

-- ---- which words are those of labels of b bits

-- the top six bits of a word with k pairs; where it has four bits only, zeros stand below them
abbrev pub top_six : ℕ → ℕ → ℕ
top_six k w = 4 * w / 2 ^ (2 * k)

-- how many top fives the labels have, or how many labels there are where b is at most 3; and the top six of their words
abbrev pub tops : ℕ → ℕ
tops b = cond (ltb b 4) (2 ^ b) (cond (eqb (b % 2) 0) 16 32)

abbrev pub six_of : ℕ → ℕ → ℕ
six_of b q = cond (ltb b 4) (4 * label_word b q) (4 * top_four q + q % 4)

abbrev pub is_at : Option ℕ → Bool
is_at (Some k) = true
is_at None = false

-- some label's word has these top six bits
unfoldable pub in_grid : ℕ → ℕ → Bool
in_grid b s = is_at (first (λ q. eqb (six_of b q) s) (tops b))
