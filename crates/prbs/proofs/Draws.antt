-- Draws in numbers: the bit that is fed back, and the two bits of a 0-bit tone.
use mathlib.Core.Path.{◌≡◌, refl, sym, ap, ap₂, ◌∙◌}
use Prim.Native.Nat.{ℕ, zero, suc, ◌+◌, ◌-◌, ◌*◌, ◌/◌, ◌%◌, ◌^◌, ◌≤◌, ◌<◌}
use native.Mathlib.Nat.{one-mul, mod-lt, pow-zero, pow-suc, mul-zero, mul_comm, mul_assoc, mul-add, div-one, mod-one, add-mul-div_right, add-mul-mod_self_right}
use native.Mathlib.Numerals.{add-one}
use native.Mathlib.Omega.{arith}
use lib.Bits.{bit_xor, differ, xor_step, xor_mod, xor_shr}
use lib.Pow.{pow_pos, pow-add, shr-shr, shl_exact, mod-pow-add}
use Rattle.g9932.specs.Bits.{weight, odd, num}
use Rattle.g9932.specs.Filler.{next_register, draw_of, drawn, after_draws}
use Rattle.g9932.proofs.Filler.{after_add}
use Rattle.g9932.proofs.Words.{weight_odd, weight_xor}

next_number : (r : ℕ) → next_register r ≡ r / 2 + 4194304 * ((r % 2 + r / 32 % 2) % 2)
unfolding next_register
next_number r = rw (weight_xor (odd r) (odd (r / 32)), weight_odd r, weight_odd (r / 32))

feed_fits : (r n : ℕ) → r < 4294967296 → r / 2 + 4194304 * (n % 2) < 4294967296
feed_fits r n h = bounded (r / 2) (n % 2) (omega arith) (omega arith)
  where
    bounded : (a w : ℕ) → a < 2147483648 → w < 2 → a + 4194304 * w < 4294967296
    bounded a w ha hw = omega arith

-- what is fed back stands above the next bit
above : (a w : ℕ) → (a + 4194304 * w) % 2 ≡ a % 2
above a w = omega arith

low_two : (r : ℕ) → r % 4 ≡ r % 2 + 2 * (r / 2 % 2)
low_two r = omega arith

pub two_drawn : (r : ℕ) → r % 4 ≡ num (drawn 2 r)
unfolding num draw_of
two_drawn r =
    let b : weight (odd (next_register r)) ≡ r / 2 % 2 = weight_odd (next_register r) ∙ rw next_number (above (r / 2) _) in
    low_two r ∙ rw (weight_odd r, b) (sum (r % 2) (r / 2 % 2))
  where
    sum : (a b : ℕ) → a + 2 * b ≡ a + 2 * (b + 2 * 0)
    sum a b = omega arith

-- ---- several draws at once

-- digits differ where their sum is odd
digit : (a b : ℕ) → differ (a % 2) (b % 2) ≡ (a % 2 + b % 2) % 2
digit a b = go (a % 2) (b % 2) (omega arith) (omega arith)
  where
    go : (a b : ℕ) → a < 2 → b < 2 → differ a b ≡ (a + b) % 2
    go zero zero h k = refl
    go zero (suc zero) h k = refl
    go (suc zero) zero h k = refl
    go (suc zero) (suc zero) h k = refl
    go zero (suc (suc b)) h k = absurd (omega arith)
    go (suc zero) (suc (suc b)) h k = absurd (omega arith)
    go (suc (suc a)) b h k = absurd (omega arith)

-- the bits that are fed back are those of the register and of itself five bits on
abbrev fed : ℕ → ℕ
fed r = bit_xor r (r / 32)

fed_bit : (r : ℕ) → (r % 2 + r / 32 % 2) % 2 ≡ fed r % 2
fed_bit r = sym (rw (xor_step r (r / 32), digit r (r / 32)) (lowest (bit_xor (r / 2) (r / 32 / 2)) (r % 2 + r / 32 % 2)))
  where
    lowest : (x d : ℕ) → (x * 2 + d % 2) % 2 ≡ d % 2
    lowest x d = omega arith

-- a bit that is fed back at k stands above the n lowest
times : (k n w : ℕ) → n ≤ k → 2 ^ k * w ≡ w * 2 ^ (k - n) * 2 ^ n
times k n w h =
    let e : k ≡ k - n + n = omega arith in
    ap (λ (j : ℕ). 2 ^ j * w) e ∙ rw (pow-add 2 (k - n) n) (mul_comm (2 ^ (k - n) * 2 ^ n) w ∙ sym (mul_assoc w (2 ^ (k - n)) (2 ^ n)))

-- so that the next 17 draws do not see it
abbrev one_on : ℕ → ℕ → ℕ
one_on r w = r / 2 + 4194304 * w

fed_on : (n r w : ℕ) → n ≤ 17 → fed (one_on r w) % 2 ^ n ≡ fed r / 2 % 2 ^ n
fed_on n r w h =
    xor_mod (one_on r w) (one_on r w / 32) n ∙ ap₂ bit_xor low high ∙ sym (xor_mod (r / 2) (r / 32 / 2) n) ∙ ap (λ (x : ℕ). x % 2 ^ n) (sym (xor_shr r (r / 32) 1))
  where
    low : one_on r w % 2 ^ n ≡ r / 2 % 2 ^ n
    low = rw (times 22 n w (omega arith)) (add-mul-mod_self_right (r / 2) (w * 2 ^ (22 - n)) (2 ^ n))

    high : one_on r w / 32 % 2 ^ n ≡ r / 32 / 2 % 2 ^ n
    high =
        let e : one_on r w / 32 ≡ r / 32 / 2 + 131072 * w = omega arith in
        rw (e, times 17 n w h) (add-mul-mod_self_right (r / 32 / 2) (w * 2 ^ (17 - n)) (2 ^ n))

shift_on : (n r w : ℕ) → n ≤ 22 → one_on r w / 2 ^ n ≡ r / 2 ^ suc n + 2 ^ (22 - n) * w
shift_on n r w h =
    rw (times 22 n w h) (add-mul-div_right (r / 2) (w * 2 ^ (22 - n)) (pow_pos n) ∙ ap₂ ◌+◌ (shr-shr r 1 n ∙ ap (λ (k : ℕ). r / 2 ^ k) one) (mul_comm w (2 ^ (22 - n))))
  where
    one : 1 + n ≡ suc n
    one = omega arith

-- The register after up to 18 draws: so many bits are fed back at once.
several_fed : (n r : ℕ) → n ≤ 18 → after_draws n r ≡ r / 2 ^ n + 2 ^ (23 - n) * (fed r % 2 ^ n)
unfolding draw_of
several_fed zero r h = rw (pow-zero 2, div-one r, mod-one (fed r), mul-zero (2 ^ (23 - 0))) (omega arith)
several_fed (suc n) r h =
    let w : ℕ = (r % 2 + r / 32 % 2) % 2 in
    let p : ℕ = 2 ^ (22 - n) in
    let double : 2 ^ (23 - n) ≡ p * 2 = ap (λ (k : ℕ). 2 ^ k) (top n (omega arith)) ∙ pow-suc 2 (22 - n) in
    let split : fed r % 2 ^ suc n ≡ fed r / 2 % 2 ^ n * 2 + w = ap (λ (m : ℕ). fed r % 2 ^ m) (sym (add-one n)) ∙ mod-pow-add (fed r) n 1 ∙ ap (λ (x : ℕ). fed r / 2 % 2 ^ n * 2 + x) (sym (fed_bit r)) in
    let less : 23 - suc n ≡ 22 - n = omega arith in
    several_fed n (next_register r) (omega arith)
    ∙ rw (next_number r, shift_on n r w (omega arith), fed_on n r w (omega arith), double, split, less) (together (r / 2 ^ suc n) p w (fed r / 2 % 2 ^ n))
  where
    top : (n : ℕ) → n ≤ 17 → 23 - n ≡ suc (22 - n)
    top n h = omega arith

    together : (a p w z : ℕ) → a + p * w + p * 2 * z ≡ a + p * (z * 2 + w)
    together a p w z =
        let e = mul-add p (z * 2) w in
        let f : p * (z * 2) ≡ p * 2 * z = ap (λ (x : ℕ). p * x) (mul_comm z 2) ∙ sym (mul_assoc p 2 z) in
        omega (arith, e, f)

-- what the code works out, by shifts
pub several_shifted : (n r : ℕ) → n ≤ 18 → r / 2 ^ n + fed r % (1 * 2 ^ n % 4294967296) * 2 ^ (23 - n) % 4294967296 ≡ after_draws n r
several_shifted n r h =
    let one = shl_exact 1 n 32 (omega arith) (omega arith) ∙ one-mul (2 ^ n) in
    let feed = shl_exact n (23 - n) 32 (mod-lt (fed r) (pow_pos n)) (omega arith) ∙ mul_comm (fed r % 2 ^ n) (2 ^ (23 - n)) in
    rw (one, feed) (sym (several_fed n r h))

pub draws_fit : (n r : ℕ) → r < 4294967296 → after_draws n r < 4294967296
unfolding draw_of
draws_fit zero r h = h
draws_fit (suc n) r h = draws_fit n (next_register r) (rw next_number (feed_fits r (r % 2 + r / 32 % 2) h))

-- draws after draws
pub draws_on : (j k n r : ℕ) → j + k ≡ n → after_draws k (after_draws j r) ≡ after_draws n r
draws_on j k n r e = sym (after_add j k r) ∙ ap (λ (m : ℕ). after_draws m r) e
