-- Points turned, on their two lists: xs and ys become X and Y.
use Rattle.std.specs.Prelude.{ℕ, ◌<◌, List, ◌≡◌, ℤ, pos, neg_ℤ, length, get_or}
use Rattle.std.specs.Int.Signed.{mag}

-- z is the opposite of a coordinate, if that has one in sixteen bits
abbrev pub Opposite : ℤ → ℤ → Type 0
Opposite was z = mag (neg_ℤ was) < 32768 → z ≡ neg_ℤ was

pub record Opposites (zs Z : List ℤ) : Type 0 where
  pub opposites : (k : ℕ) → k < length zs → Opposite (get_or zs k (pos 0)) (get_or Z k (pos 0))

-- (Y, X) for every (X, Y)
pub record Exchanges (xs ys X Y : List ℤ) : Type 0 where
  pub new_xs : X ≡ ys
  pub new_ys : Y ≡ xs

-- (−Y, X) for every (X, Y)
pub record TurnsLeft (xs ys X Y : List ℤ) : Type 0 where
  pub new_xs : Opposites ys X
  pub new_ys : Y ≡ xs

-- (Y, −X) for every (X, Y)
pub record TurnsRight (xs ys X Y : List ℤ) : Type 0 where
  pub new_xs : X ≡ ys
  pub new_ys : Opposites xs Y
