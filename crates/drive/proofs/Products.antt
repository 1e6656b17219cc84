-- Gain times coordinate, as the code makes it: in 32 bits nothing is lost, and it has at most 24 binary digits.
use Rattle.std.specs.Prelude.{None, Some}
use Prim.Native.Nat.{ℕ, zero, suc, ◌*◌, ◌^◌, ◌≤◌, ◌<◌}
use mathlib.Core.Bool.{true, false}
use mathlib.Core.Path.{◌≡◌, refl, sym, ap, ◌∙◌}
use native.Mathlib.Nat.{mul-le-mul}
use native.Mathlib.Omega.{arith}
use borrow.Author.Tests.{ne_eqb}
use lib.Dec.{T, le→leb, lt→ltb}
use lib.IntN.{ℤ, pos, negsuc, neg_ℤ, nat_abs, ◌*ℤ◌, *ℤ_comm}
use lib.Ieee.{binary32, in_float, of_int, of_bits, div}
use lib.Signed.{mag}
use mir.Syntax.{w16, w32}
use mir.Val.{SFits, to_z, of_z}
use mir.ValLaws.{to_z_pos, to_z-of_z}
use Rattle.g9932.proofs.Over512.{no_rounding}
use Rattle.g9932.specs.Drive.{over512, gained}
use Rattle.g9932.specs.Points.{same_int}
use Rattle.g9932.specs.Sizes.{point}
use Rattle.drive.specs.Numbers.{whole_by}

mag_most : (z : ℤ) → mag z ≤ nat_abs z
mag_most (pos n) = omega arith
mag_most (negsuc n) = omega arith

-- a coordinate of sixteen bits is read as it was written
pub read_back : (x : ℤ) → nat_abs x ≤ 1023 → to_z w16 (of_z w16 x) ≡ x
read_back x h = to_z-of_z w16 x (record { sfits = omega (arith, mag_most x) })

pub abs_gained : (g : ℕ) (x : ℤ) → nat_abs (pos g *ℤ x) ≡ g * nat_abs x
abs_gained g (pos n) = refl
abs_gained g (negsuc n) = go (g * suc n)
  where
    go : (k : ℕ) → nat_abs (neg_ℤ (pos k)) ≡ k
    go zero = refl
    go (suc k) = refl

floats : (z : ℤ) → nat_abs z ≤ 4189185 → T (in_float binary32 z)
unfolding in_float
floats (pos n) h = le→leb n (2 ^ 24) (omega arith)
floats (negsuc n) h = lt→ltb n (2 ^ 24) (omega arith)

pub same_zero : (z : ℤ) → z ≡ pos 0 → same_int z (pos 0) ≡ true
same_zero z e = rw e refl

pub not_zero : (z : ℤ) → (z ≡ pos 0 → ⊥) → same_int z (pos 0) ≡ false
not_zero (pos zero) h = absurd (h refl)
not_zero (pos (suc n)) h = ne_eqb (suc n) 0 (omega arith)
not_zero (negsuc n) h = refl

of_z_none : of_z w32 (pos 0) ≡ 0
of_z_none = refl

module _ (g : ℕ) (x : ℤ) (hg : g ≤ 4095) (hx : nat_abs x ≤ 1023) where
  gain_is : to_z w16 g ≡ pos g
  gain_is = to_z_pos w16 g (omega arith)

  pub coordinate_fits : SFits w32 (to_z w16 (of_z w16 x))
  coordinate_fits = rw (read_back x hx) (record { sfits = omega (arith, mag_most x) })

  pub gain_fits : SFits w32 (to_z w16 g)
  gain_fits = rw gain_is (record { sfits = omega arith })

  pub product_is : to_z w32 (of_z w32 (to_z w16 (of_z w16 x))) *ℤ to_z w32 (of_z w32 (to_z w16 g)) ≡ pos g *ℤ x
  product_is = rw (to_z-of_z w32 (to_z w16 (of_z w16 x)) coordinate_fits, to_z-of_z w32 (to_z w16 g) gain_fits, read_back x hx, gain_is) (*ℤ_comm x (pos g))

  pub product_most : nat_abs (pos g *ℤ x) ≤ 4189185
  product_most = rw (abs_gained g x) (mul-le-mul {n₁ = g} {m₁ = nat_abs x} {n₂ = 4095} {m₂ = 1023} hg hx)

  pub product_small : nat_abs (pos g *ℤ x) < 2 ^ 24
  product_small = omega (arith, product_most)

  pub product_fits : SFits w32 (to_z w32 (of_z w32 (to_z w16 (of_z w16 x))) *ℤ to_z w32 (of_z w32 (to_z w16 g)))
  product_fits = rw product_is (record { sfits = omega (arith, mag_most (pos g *ℤ x), product_most) })

  pub whole_is : to_z w32 (of_z w32 (to_z w32 (of_z w32 (to_z w16 (of_z w16 x))) *ℤ to_z w32 (of_z w32 (to_z w16 g)))) ≡ pos g *ℤ x
  whole_is = to_z-of_z w32 _ product_fits ∙ product_is

  pub whole_floats : T (in_float binary32 (to_z w32 (of_z w32 (to_z w32 (of_z w32 (to_z w16 (of_z w16 x))) *ℤ to_z w32 (of_z w32 (to_z w16 g))))))
  whole_floats = rw whole_is (floats (pos g *ℤ x) product_most)

  pub number_is : div binary32 (of_int binary32 (to_z w32 (of_z w32 (to_z w32 (of_z w32 (to_z w16 (of_z w16 x))) *ℤ to_z w32 (of_z w32 (to_z w16 g)))))) (of_bits binary32 0x4400_0000) ≡ over512 (pos g *ℤ x)
  unfolding of_bits
  number_is = rw whole_is (no_rounding (pos g *ℤ x) product_small)

  -- the word of the product tells whether the place is silent
  pub silent_told : (y : ℤ) → of_z w32 (to_z w32 (of_z w32 (to_z w16 (of_z w16 x))) *ℤ to_z w32 (of_z w32 (to_z w16 g))) ≡ 0 → whole_by g (point x y) ≡ None
  silent_told y e = rw (same_zero (pos g *ℤ x) (sym whole_is ∙ ap (to_z w32) e ∙ to_z_pos w32 0 (omega arith)))

  pub driven_told : (y : ℤ) → (of_z w32 (to_z w32 (of_z w32 (to_z w16 (of_z w16 x))) *ℤ to_z w32 (of_z w32 (to_z w16 g))) ≡ 0 → ⊥) → whole_by g (point x y) ≡ Some (gained g (point x y))
  driven_told y not = rw (not_zero (pos g *ℤ x) (λ e. not (ap (of_z w32) (product_is ∙ e) ∙ of_z_none)))
