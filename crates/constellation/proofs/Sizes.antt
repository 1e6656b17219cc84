-- How large the parts of a word are.
use Prim.Native.Nat.{ℕ, zero, suc, ◌+◌, ◌-◌, ◌*◌, ◌/◌, ◌^◌, ◌≤◌, ◌<◌}
use mathlib.Core.Bool.{Bool, true, false, cond}
use mathlib.Core.Path.{◌≡◌, refl}
use native.Mathlib.Nat.{pow-suc, zero-add, suc-add, lt_of_lt_of_le, mod-lt}
use native.Mathlib.Omega.{arith}
use borrow.Author.Tests.{leb-false, ltb-true, ltb-false, le-ltb}
use lib.Arith.{digits_lt}
use lib.Dec.{ltb, leb}
use lib.Pow.{pow_pos, pow_mono, pow-add, shr_lt}
use Rattle.g9932.specs.Bits.{num, odd, bits, first}
use Rattle.g9932.specs.Points.{evens, odds}
use Rattle.g9932.proofs.Words.{weight_odd, weight_le}
use Rattle.g9932.proofs.Search.{first_no}
use Rattle.constellation.specs.Widened.{plain_pairs, mapping_label, top_five, top_four, widened_label, label_word, sign_weight, x_bits, y_bits}

-- ---- words

pub five_lt : (k l : ℕ) → l < 2 ^ (2 * k + 3) → top_five k l < 32
unfolding top_five
five_lt zero l h = omega arith
five_lt (suc j) l h = let e : 2 * suc j + 3 ≡ 5 + 2 * j = omega arith in shr_lt 5 (2 * j) (rw e at h)

pub four_lt : (q : ℕ) → q < 32 → top_four q < 16
unfolding first top_four
four_lt q h = leb-false 16 (top_four q) (first_no (λ q. leb 16 (top_four q)) 32 refl q h)

widened_lt : (k l : ℕ) → l < 2 ^ (2 * k + 3) → widened_label k l < 2 ^ (4 + 2 * k)
unfolding widened_label
widened_lt k l h =
    rw (pow-add 2 4 (2 * k)) (digits_lt {m = 16} (four_lt (top_five k l) (five_lt k l h)) (mod-lt l (pow_pos (2 * k))))

pub label_lt : (b l : ℕ) → 1 ≤ b → l < 2 ^ b → mapping_label b l < 2 ^ (2 * plain_pairs b + 3)
label_lt b l h k = go (ltb b 2) refl
  where
    go : (c : Bool) → ltb b 2 ≡ c → cond c (3 * l) l < 2 ^ (2 * plain_pairs b + 3)
    go true e =
        let one : b ≡ 1 = omega (arith, ltb-true b 2 e) in
        let small : l < 2 ^ 1 = rw one at k in
        rw one (omega arith)
    go false e = lt_of_lt_of_le k (pow_mono {i = b} {j = 2 * plain_pairs b + 3} (omega (arith, ltb-false b 2 e)))

-- ---- the bits of X and Y

-- a word's bits beyond its own do not count
pub evens_more : (n w : ℕ) → w < 2 ^ n → num (evens (bits (suc n) w)) ≡ num (evens (bits n w))
unfolding bits num
evens_more zero w h = omega (arith, weight_odd w)
evens_more (suc zero) w h = refl
evens_more (suc (suc n)) w h =
    let e = evens_more n (w / 2 / 2) (omega (arith, pow-suc 2 (suc n), pow-suc 2 n)) in
    omega arith

pub evens_long : (j n w : ℕ) → w < 2 ^ n → num (evens (bits (j + n) w)) ≡ num (evens (bits n w))
evens_long zero n w h = rw zero-add
evens_long (suc j) n w h =
    let k : w < 2 ^ (j + n) = lt_of_lt_of_le h (pow_mono {i = n} {j = j + n} (omega arith)) in
    rw (suc-add j n, evens_more (j + n) w k) (evens_long j n w h)

pub evens_lt : (m n w : ℕ) → n ≤ 2 * m → num (evens (bits n w)) < 2 ^ m
unfolding bits num
evens_lt m zero w h = pow_pos m
evens_lt zero (suc n) w h = absurd (omega arith)
evens_lt (suc m) (suc zero) w h = omega (arith, weight_le (odd w), pow-suc 2 m, pow_pos m)
evens_lt (suc m) (suc (suc n)) w h =
    let e = evens_lt m n (w / 2 / 2) (omega arith) in
    omega (arith, weight_le (odd w), pow-suc 2 m)

pub odds_evens : (n w : ℕ) → odds (bits (suc n) w) ≡ evens (bits n (w / 2))
unfolding bits
odds_evens n w = refl

pub own_bits_lem : (k w : ℕ) → k ≤ 6 → w < 2 ^ (4 + 2 * k) → (x_bits w ≡ num (odds (bits (2 * k + 4) w))) × (y_bits w ≡ num (evens (bits (2 * k + 4) w)))
own_bits_lem k w h s =
    let e : 2 * k + 4 ≡ suc (2 * k + 3) = omega arith in
    let f : 12 - 2 * k + (2 * k + 3) ≡ 15 = omega arith in
    let g : 12 - 2 * k + (2 * k + 4) ≡ 16 = omega arith in
    let i : 4 + 2 * k ≡ 2 * k + 4 = omega arith in
    let small : w < 2 ^ (2 * k + 4) = rw i at s in
    let lower : w / 2 < 2 ^ (2 * k + 3) = half_lt (2 * k + 3) (rw e at small) in
    let x = rw f at (evens_long (12 - 2 * k) (2 * k + 3) (w / 2) lower) in
    let y = rw g at (evens_long (12 - 2 * k) (2 * k + 4) w small) in
    (rw (odds_evens 15 w, e, odds_evens (2 * k + 3) w) x, y)
  where
    half_lt : (n : ℕ) → w < 2 ^ suc n → w / 2 < 2 ^ n
    half_lt n t = omega (arith, pow-suc 2 n)

pub bits_lt : (k w : ℕ) → k ≤ 6 → w < 2 ^ (4 + 2 * k) → (x_bits w < sign_weight k) × (y_bits w < sign_weight k)
bits_lt k w h s =
    let own = own_bits_lem k w h s in
    let e : 2 * k + 4 ≡ suc (2 * k + 3) = omega arith in
    let p : 2 ^ suc (suc k) ≡ sign_weight k = omega (arith, pow-suc 2 (suc k), pow-suc 2 k) in
    let x : num (odds (bits (2 * k + 4) w)) < 2 ^ suc (suc k) = rw (e, odds_evens (2 * k + 3) w) (evens_lt (suc (suc k)) (2 * k + 3) (w / 2) (omega arith)) in
    let y = evens_lt (suc (suc k)) (2 * k + 4) w (omega arith) in
    (omega arith, omega arith)

-- ---- the word of a label of b bits

pub word_lt : (b l : ℕ) → 1 ≤ b → l < 2 ^ b → label_word b l < 2 ^ (4 + 2 * plain_pairs b)
word_lt b l h k = widened_lt (plain_pairs b) (mapping_label b l) (label_lt b l h k)

-- from 2 bits on a label is its own mapping label
pub large_word : (b l : ℕ) → 2 ≤ b → label_word b l ≡ widened_label (plain_pairs b) l
large_word b l h = rw (le-ltb b 2 h)

pub word_16 : (k w : ℕ) → k ≤ 6 → w < 2 ^ (4 + 2 * k) → w < 65536
word_16 k w h s = lt_of_lt_of_le s (pow_mono {i = 4 + 2 * k} {j = 16} (omega arith))

pub half_le : (k : ℕ) → k ≤ 6 → sign_weight k ≤ 256
half_le k h = let e = pow_mono {i = k} {j = 6} h in omega arith
