-- The place on an axis of a coordinate's bits above the lowest.
use Prim.Native.Nat.{ℕ, zero, suc, ◌+◌, ◌-◌, ◌*◌, ◌%◌, ◌^◌, ◌≤◌}
use mathlib.Core.Bool.{Bool, true, false, cond}
use mathlib.Core.List.{List, [], ◌∷◌}
use mathlib.Core.Path.{◌≡◌, refl, ◌∙◌}
use native.Mathlib.Nat.{pow-suc}
use native.Mathlib.Omega.{arith}
use borrow.Author.Tests.{ltb-true, ltb-false}
use lib.Dec.{ltb}
use lib.IntN.{ℤ, pos, negsuc, neg_ℤ, nat_abs, sub_ℕ}
use lib.ListN.{length}
use lib.Pow.{pow_mono}
use Rattle.g9932.specs.Bits.{weight, num}
use Rattle.g9932.specs.Points.{sign_bit, twos_complement}
use Rattle.g9932.proofs.Words.{num_lt, weight_le}
use Rattle.g9932.specs.Nearest.{apart}
use Rattle.cosets.specs.Nearest.{Raised}
use Rattle.cosets.specs.Grid.{gap}

-- ---- distances of raised coordinates

sub_abs : (a b : ℕ) → nat_abs (sub_ℕ a b) ≡ gap a b
sub_abs a b = go (ltb a b) refl
  where
    go : (c : Bool) → ltb a b ≡ c → nat_abs (cond c (negsuc (b - suc a)) (pos (a - b))) ≡ gap a b
    go true e = omega (arith, ltb-true a b e)
    go false e = omega (arith, ltb-false a b e)

pub apart_raised : (z y : ℤ) (m n : ℕ) → Raised z m → Raised y n → apart z y ≡ gap m n
apart_raised (pos a) (pos zero) m n p q = omega (arith, p, q)
apart_raised (pos a) (pos (suc b)) m n p q = sub_abs a (suc b) ∙ omega (arith, p, q)
apart_raised (pos a) (negsuc b) m n p q = omega (arith, p, q)
apart_raised (negsuc a) (pos zero) m n p q = sub_abs 0 (suc a) ∙ omega (arith, p, q)
apart_raised (negsuc a) (pos (suc b)) m n p q = omega (arith, p, q)
apart_raised (negsuc a) (negsuc b) m n p q = sub_abs (suc b) (suc a) ∙ omega (arith, p, q)

raised_neg : (k n : ℕ) → 1 ≤ k → n + k ≡ 1024 → Raised (neg_ℤ (pos k)) n
raised_neg zero n h e = absurd (omega arith)
raised_neg (suc k) n h e = e

-- ---- places

abbrev pub spot : List Bool → ℕ
spot l = 512 + num l - cond (sign_bit l) (2 ^ length l) 0

small_pow : (n : ℕ) → n ≤ 8 → 2 ^ n ≤ 256
small_pow n h = pow_mono {i = n} {j = 8} h

pub spot_cons : (b c : Bool) (l : List Bool) → length (c ∷ l) ≤ 8 → spot (b ∷ c ∷ l) + 512 ≡ 2 * spot (c ∷ l) + weight b
unfolding num
spot_cons b c l h = go (sign_bit (c ∷ l))
  where
    go : (s : Bool) → 512 + (weight b + 2 * num (c ∷ l)) - cond s (2 ^ suc (length (c ∷ l))) 0 + 512 ≡ 2 * (512 + num (c ∷ l) - cond s (2 ^ length (c ∷ l)) 0) + weight b
    go true = omega (arith, pow-suc 2 (length (c ∷ l)), small_pow (length (c ∷ l)) h)
    go false = omega arith

pub spot_low : (b : Bool) (l : List Bool) → length (b ∷ l) ≤ 8 → spot (b ∷ l) % 2 ≡ weight b
unfolding num weight
spot_low true [] h = refl
spot_low false [] h = refl
spot_low b (c ∷ l) h = omega (arith, spot_cons b c l (omega arith), weight_le b)

pub spot_raised : (b : Bool) (l : List Bool) → length (b ∷ l) ≤ 8 → Raised (twos_complement (true ∷ b ∷ l)) (2 * spot (b ∷ l) + 1)
unfolding twos_complement num weight
spot_raised b l h = go (sign_bit (b ∷ l))
  where
    go : (s : Bool) → Raised (cond s (neg_ℤ (pos (2 ^ suc (length (b ∷ l)) - (1 + 2 * num (b ∷ l))))) (pos (1 + 2 * num (b ∷ l)))) (2 * (512 + num (b ∷ l) - cond s (2 ^ length (b ∷ l)) 0) + 1)
    go true =
        raised_neg (2 ^ suc (length (b ∷ l)) - (1 + 2 * num (b ∷ l))) (2 * (512 + num (b ∷ l) - 2 ^ length (b ∷ l)) + 1)
        (omega (arith, pow-suc 2 (length (b ∷ l)), num_lt (b ∷ l)))
        (omega (arith, pow-suc 2 (length (b ∷ l)), num_lt (b ∷ l), small_pow (length (b ∷ l)) h))
    go false = omega arith
