-- The tests that one pass makes together, and the marks of the members of t.
use Rattle.std.specs.Prelude.{ℕ, zero, suc, ◌+◌, ◌<◌, Bool, true, false, ◌||◌, List, [], ◌∷◌, ◌≡◌, ltb, length, get_or, set}
use Rattle.g9932.specs.Bits.{weight}
use Rattle.g9932.specs.Sizes.{entry, most_tones}
use Rattle.g9932.specs.Refusals.{member, stray_by, gain_by}

-- a test holds at some k below n
unfoldable pub any_below : (ℕ → Bool) → ℕ → Bool
any_below p zero = false
any_below p (suc n) = any_below p n || p n

-- 4, 5 or 6 applies to an index
abbrev pub index_by : Bool → ℕ → ℕ → Bool
index_by in_t bits gain = ltb 15 bits || (stray_by in_t bits gain || gain_by bits gain)

abbrev pub index_fault : List ℕ → List ℕ → List ℕ → ℕ → Bool
index_fault b g t k = index_by (member k t) (entry b k) (entry g k)

-- every tone is below n
abbrev pub Below : ℕ → List ℕ → Type 0
Below n t = (k : ℕ) → k < length t → entry t k < n

-- the marks after a list of tones more; and how many there are
unfoldable pub marked : List Bool → List ℕ → List Bool
marked seen [] = seen
marked seen (k ∷ t) = marked (set seen k true) t

abbrev pub trues : List Bool → ℕ
trues [] = 0
trues (b ∷ l) = weight b + trues l

-- the members of a list of tones are marked
abbrev pub Marks : List ℕ → List Bool → Type 0
Marks t seen = (k : ℕ) → k < most_tones → get_or seen k false ≡ member k t
