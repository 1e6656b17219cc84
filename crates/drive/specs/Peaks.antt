-- The peak, carried from place to place, over whole numbers: 512 times it, and its first place.
use Rattle.std.specs.Prelude.{Option}
use Rattle.std.specs.Prelude.{ℕ, suc, ◌+◌, ◌≤◌, ◌<◌, Bool, false, cond, List, [], ◌∷◌, map, ◌≡◌, ltb, ℤ, pos, nat_abs, Float, length}
use Rattle.g9932.specs.Drive.{over512, larger, size_at, signal_of, x_of, y_of}
use Rattle.g9932.specs.Sizes.{Point, entry, most_tones}
use Rattle.g9932.specs.declared.Peak.{Peak}

-- ---- over whole numbers

pub record Most : Type 0 where
  pub most : ℕ
  pub place : ℕ

abbrev pub peak_by : Most → Peak
peak_by m = record { size = over512 (pos m.most); place = record { 0 = m.place } }

-- after a place of that size, and after several from place k on
abbrev pub raise : Most → ℕ → ℕ → Most
raise m s k = cond (ltb m.most s) (record { most = s; place = k }) m

unfoldable pub carried : Most → List ℕ → ℕ → Most
carried m [] k = m
carried m (s ∷ l) k = carried (raise m s k) l (suc k)

-- ---- of floats

pub record LargerOf (x y r : Float) : Type 0 where
  pub larger_is : (a b : ℤ) → x ≡ over512 a → y ≡ over512 b → r ≡ over512 (pos (larger (nat_abs a) (nat_abs b)))

pub record Raises (peak : Peak) (x y : Float) (k : ℕ) (r : Peak) : Type 0 where
  pub raised_is : (m : Most) (a b : ℤ) → peak ≡ peak_by m → x ≡ over512 a → y ≡ over512 b → r ≡ peak_by (raise m (larger (nat_abs a) (nat_abs b)) k)

-- the lists have the numbers of these places
pub record Lists (ws : List (Option Point)) (xs ys : List Float) : Type 0 where
  pub xs_are : xs ≡ map (λ w. x_of (signal_of w)) ws
  pub ys_are : ys ≡ map (λ w. y_of (signal_of w)) ws

pub record CarryNeeds (xs ys : List Float) (from : ℕ) : Type 0 where
  pub ys_length : length ys ≡ length xs
  pub places_most : from + length xs ≤ most_tones

pub record Carries (peak : Peak) (xs ys : List Float) (from : ℕ) (r : Peak) : Type 0 where
  pub carried_is : (m : Most) (ws : List (Option Point)) → peak ≡ peak_by m → Lists ws xs ys → r ≡ peak_by (carried m (map size_at ws) from)

-- where none is above, none of the sizes is
pub record TellsAbove (xs ys : List Float) (size : Float) (r : Bool) : Type 0 where
  pub none : (n : ℕ) (ws : List (Option Point)) → size ≡ over512 (pos n) → Lists ws xs ys → r ≡ false → (i : ℕ) → i < length ws → entry (map size_at ws) i ≤ n
