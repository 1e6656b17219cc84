-- Labels: as bits one after the other, each by its own count, and as a list by place in t'.
use Rattle.std.specs.Prelude.{ℕ, ◌^◌, ◌<◌, Bool, List, [], ◌∷◌, ◌++◌, map, ◌≡◌, length, get_or}
use Rattle.g9932.specs.Bits.{bits}
use Rattle.g9932.specs.Sizes.{entry}

abbrev pub bits_of_labels : List ℕ → List ℕ → List Bool
bits_of_labels [] ls = []
bits_of_labels (e ∷ es) [] = []
bits_of_labels (e ∷ es) (l ∷ ls) = bits e l ++ bits_of_labels es ls

-- the first n labels have no more bits than their counts
abbrev pub Within : List ℕ → List ℕ → ℕ → Type 0
Within es ls n = (k : ℕ) → k < n → get_or ls k 0 < 2 ^ get_or es k 0

-- the labels at these places
abbrev pub labels_at : List ℕ → List ℕ → List ℕ
labels_at ps ls = map (entry ls) ps

-- places that rise, all below n
pub record Rising (ps : List ℕ) (n : ℕ) : Type 0 where
  pub below : (j : ℕ) → j < length ps → entry ps j < n
  pub rises : (j k : ℕ) → j < k → k < length ps → entry ps j < entry ps k

-- each entry has a place in a list of labels
pub record Placed (es ps ls : List ℕ) : Type 0 where
  pub places_length : length ps ≡ length es
  pub rising : Rising ps (length ls)
