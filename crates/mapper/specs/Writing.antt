-- Frame bits to labels by place, and these to points.
use Rattle.std.specs.Prelude.{ℕ, ◌+◌, ◌*◌, ◌/◌, ◌%◌, ◌≤◌, ◌<◌, List, [], ◌∷◌, ◌≡◌, ℤ, pos, length, take, drop, get_or, set}
use Rattle.constellation.specs.MapByLayout.{Mappable, MapsTo}
use Rattle.frame.specs.Labels.{bits_of_labels, Within, labels_at, Rising}
use Rattle.g9932.specs.Bits.{num}
use Rattle.g9932.specs.Filler.{drawn, after_draws}
use Rattle.g9932.specs.Order.{sum}
use Rattle.g9932.specs.Sizes.{entry, unpack, point, most_held}

-- ---- a frame cut into labels

pub record CutNeeds (frame : List ℕ) (start : ℕ) (es ps labels : List ℕ) : Type 0 where
  pub same : length ps ≡ length es
  pub counts : (k : ℕ) → entry es k ≤ 15
  pub places : Rising ps (length labels)
  pub bits : start + sum es ≤ 8 * length frame
  pub small : length frame ≤ most_held

pub record CutsLabels (frame : List ℕ) (start : ℕ) (es ps after : List ℕ) : Type 0 where
  pub whole : bits_of_labels es (labels_at ps after) ≡ take (sum es) (drop start (unpack frame))
  pub within : Within es (labels_at ps after) (length es)

-- ---- labels that two tones of 1 bit share

-- each label gives its lower bit to the first of two places and its upper one to the second
abbrev pub split_ones : List ℕ → List ℕ
split_ones [] = []
split_ones (a ∷ []) = a ∷ []
split_ones (a ∷ b ∷ ls) = (a % 2) ∷ (a / 2) ∷ split_ones ls

-- ---- filler bits

pub record FillerNeeds (ds labels : List ℕ) : Type 0 where
  pub below : (k : ℕ) → k < length ds → entry ds k < length labels

-- the labels with the next two filler bits at each of the places, in turn
abbrev pub with_filler : ℕ → List ℕ → List ℕ → List ℕ
with_filler r [] ls = ls
with_filler r (p ∷ ds) ls = with_filler (after_draws 2 r) ds (set ls p (num (drawn 2 r)))

pub record SetsFiller (ds : List ℕ) (r : ℕ) (labels : List ℕ) (next : ℕ) (after : List ℕ) : Type 0 where
  pub register_is : next ≡ after_draws (2 * length ds) r
  pub labels_are : after ≡ with_filler r ds labels

-- ---- points

pub record PutNeeds (layouts labels : List ℕ) (xs ys : List ℤ) : Type 0 where
  pub layouts_length : length layouts ≡ length xs
  pub labels_length : length labels ≡ length xs
  pub ys_length : length ys ≡ length xs
  pub mappable : (i : ℕ) → i < length xs → Mappable (entry layouts i) (entry labels i)

pub record PutsPoints (layouts labels : List ℕ) (xs ys : List ℤ) : Type 0 where
  pub points : (i : ℕ) → i < length xs → MapsTo (entry layouts i) (entry labels i) (point (get_or xs i (pos 0)) (get_or ys i (pos 0)))
