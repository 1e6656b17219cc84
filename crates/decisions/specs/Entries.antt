-- The entries of a plan and the points received at their places.
use Rattle.std.specs.Prelude.{ℕ, suc, ◌≤◌, ◌<◌, Bool, true, false, List, [], ◌∷◌, ◌≡◌, ltb, ℤ, pos, length, get_or}
use Rattle.cosets.specs.Meters.{Meter, tone_meter, shared}
use Rattle.cosets.specs.Nearest.{InRange}
use Rattle.frame.specs.Labels.{Rising}
use Rattle.g9932.specs.Sizes.{entry, Point, origin}

-- What the labels of an entry of e bits at place p cost: a tone's own entry, or one that the tones at p and behind it share.
abbrev pub meter_by : Bool → ℕ → ℕ → List Point → Meter
meter_by true e p q = tone_meter e (get_or q p origin)
meter_by false e p q = shared (tone_meter 1 (get_or q p origin)) (tone_meter 1 (get_or q (suc p) origin))

-- from place `from` on two tones share an entry
abbrev pub meters_in : ℕ → List Point → List ℕ → List ℕ → List Meter
meters_in from q [] ps = []
meters_in from q (e ∷ es) [] = []
meters_in from q (e ∷ es) (p ∷ ps) = meter_by (ltb p from) e p q ∷ meters_in from q es ps

-- of entry k
abbrev pub meter_at : ℕ → List Point → List ℕ → List ℕ → ℕ → Meter
meter_at from q es ps k = meter_by (ltb (entry ps k) from) (entry es k) (entry ps k) q

-- the points can be decided: every coordinate is in range, and each entry has a place and from `least` to 15 bits, 2 where it is shared
pub record Decidable (least from : ℕ) (es ps : List ℕ) (xs ys : List ℤ) : Type 0 where
  pub places_length : length ps ≡ length es
  pub rising : Rising ps (length xs)
  pub ys_length : length ys ≡ length xs
  pub x_in_range : (i : ℕ) → i < length xs → InRange (get_or xs i (pos 0))
  pub y_in_range : (i : ℕ) → i < length xs → InRange (get_or ys i (pos 0))
  pub bits_least : (k : ℕ) → k < length es → least ≤ entry es k
  pub bits_most : (k : ℕ) → k < length es → entry es k ≤ 15
  pub shared_two : (k : ℕ) → k < length es → from ≤ entry ps k → entry es k ≡ 2
  pub shared_inside : (k : ℕ) → k < length es → from ≤ entry ps k → suc (entry ps k) < length xs
