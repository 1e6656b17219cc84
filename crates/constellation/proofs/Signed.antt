-- The bits of a coordinate of sixteen bits, from the coordinate raised.
use Prim.Native.Nat.{ℕ, suc, ◌+◌, ◌-◌, ◌*◌, ◌/◌, ◌%◌, ◌^◌, ◌≤◌, ◌<◌}
use mathlib.Core.Bool.{Bool, true, false, cond}
use mathlib.Core.Path.{◌≡◌, refl, sym, ap, ◌∙◌}
use native.Mathlib.Nat.{pow-suc, mod-lt}
use native.Mathlib.Omega.{arith}
use borrow.Author.Tests.{le-ltb, ltb-true, ltb-false}
use lib.Arith.{digits_mod}
use lib.Bits.{bit_and, and_mask}
use lib.Dec.{ltb}
use lib.IntN.{ℤ, pos, negsuc, ◌+ℤ◌}
use lib.Pow.{pow_pos, pow-add}
use Rattle.g9932.proofs.TwosComplement.{pos_inj}
use Rattle.constellation.specs.Widened.{sign_weight, coordinate_of}
use Rattle.constellation.specs.DemapByLayout.{Power, BitsOf}
use Rattle.constellation.proofs.Sizes.{half_le}

coordinate_raised : (h d : ℕ) → h ≤ 256 → coordinate_of h d +ℤ pos 32768 ≡ pos (2 * d + 32769 - h)
coordinate_raised h d p = go (ltb (2 * d + 1) h) refl
  where
    go : (c : Bool) → ltb (2 * d + 1) h ≡ c → cond c (negsuc (h - suc (2 * d + 1))) (pos (2 * d + 1 - h)) +ℤ pos 32768 ≡ pos (2 * d + 32769 - h)
    go true t =
        let l = ltb-true (2 * d + 1) h t in
        let n : 32768 - suc (h - suc (2 * d + 1)) ≡ 2 * d + 32769 - h = omega arith in
        rw (le-ltb 32768 (suc (h - suc (2 * d + 1))) (omega arith)) (ap pos n)
    go false t =
        let l = ltb-false (2 * d + 1) h t in
        let n : 2 * d + 1 - h + 32768 ≡ 2 * d + 32769 - h = omega arith in
        ap pos n

half_pow : (k : ℕ) → sign_weight k ≡ 2 ^ suc (suc k)
half_pow k = omega (arith, pow-suc 2 (suc k), pow-suc 2 k)

-- the bits below the sign bit's weight
below_weight : (k d : ℕ) → k ≤ 6 → d < sign_weight k → (d + 16384) % sign_weight k ≡ d
below_weight k d l s =
    let u : d + 16384 ≡ 2 ^ (12 - k) * 2 ^ suc (suc k) + d = omega (arith, all) in
    rw (u, half_pow k) (digits_mod (2 ^ (12 - k)) (omega (arith, half_pow k)))
  where
    fourteen : 12 - k + suc (suc k) ≡ 14
    fourteen = omega arith

    all : 2 ^ (12 - k) * 2 ^ suc (suc k) ≡ 16384
    all = sym (pow-add 2 (12 - k) (suc (suc k))) ∙ ap (λ (n : ℕ). 2 ^ n) fourteen

-- half the coordinate above 32,768, with the sign bit's weight
pub bits_law : (m u : ℕ) (z : ℤ) → Power m → pos u ≡ z +ℤ pos 32768 → BitsOf (4 * m) z (bit_and (u / 2 + 2 * m) (4 * m - 1))
bits_law m u z p r =
    rw (width, half_pow k, and_mask (u / 2 + 2 * m) (suc (suc k)), ← half_pow k)
    (record {
      small = mod-lt (u / 2 + 2 * m) (omega (arith, pow_pos k));
      own = λ d l g.
          let n = pos_inj u (2 * d + 32769 - sign_weight k) (r ∙ ap (λ (y : ℤ). y +ℤ pos 32768) g ∙ coordinate_raised (sign_weight k) d (half_le k p.1)) in
          let up : u / 2 + 2 * m ≡ d + 16384 = omega (arith, n, width, half_le k p.1) in
          ap (λ (i : ℕ). i % sign_weight k) up ∙ below_weight k d p.1 l;
    })
  where
    k : ℕ
    k = p.0

    width : 4 * m ≡ sign_weight k
    width = ap (λ (n : ℕ). 4 * n) p.2
