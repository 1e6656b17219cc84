-- Numbers of sixteen bits: results that are in range, and numbers told apart by their bits.
use Prim.Native.Nat.{ℕ, suc, ◌+◌, ◌-◌, ◌*◌, ◌/◌, ◌≤◌, ◌<◌}
use mathlib.Core.Bool.{Bool, true, false, cond}
use mathlib.Core.Path.{◌≡◌, refl, sym, ap, ◌∙◌}
use native.Mathlib.Omega.{arith}
use lib.Dec.{ltb}
use lib.IntN.{ℤ, pos, negsuc, sub_ℕ, ◌-ℤ◌, ◌*ℤ◌}
use lib.Signed.{mag}
use mir.Syntax.{w16}
use mir.Val.{SFits, to_z, of_z}
use mir.ValLaws.{to_z-of_z}
use Rattle.g9932.specs.Plain.{corner_at}
use Rattle.g9932.specs.Points.{same_int}
use Rattle.g9932.proofs.Blocks.{below_zero, corner_at_below}
use Rattle.g9932.proofs.Constellations.{same_int→eq}

-- ---- results in range

-- a difference of natural numbers, of which one is below m and the other at most m
difference_below : (m a b : ℕ) → a < m → b ≤ m → mag (sub_ℕ a b) < m
difference_below m a b h k = go (ltb a b)
  where
    go : (c : Bool) → mag (cond c (negsuc (b - suc a)) (pos (a - b))) < m
    go true = omega arith
    go false = omega arith

mag_twice : (z : ℤ) → mag (pos 2 *ℤ z) ≤ 2 * mag z + 1
mag_twice (pos a) = omega arith
mag_twice (negsuc a) = rw (below_zero (2 * suc a) (2 * a + 1) (omega arith)) (omega arith)

mag_less : (z : ℤ) → mag (z -ℤ pos 1) ≤ mag z + 1
mag_less (pos a) = omega (arith, difference_below (a + 2) a 1 (omega arith) (omega arith))
mag_less (negsuc a) = omega arith

pub doubled_within : (z : ℤ) → mag z ≤ 1023 → mag (pos 2 *ℤ z -ℤ pos 1) ≤ 4095
doubled_within z h = omega (arith, mag_twice z, mag_less (pos 2 *ℤ z))

-- ---- the corner of a block, of any coordinate

pub corner_within : (z : ℤ) → SFits w16 z → mag (corner_at z) ≤ 32766
corner_within (pos a) h = omega (arith, h.sfits)
corner_within (negsuc a) h = rw (corner_at_below a) (omega (arith, h.sfits))

pub apart_fits : (z : ℤ) → SFits w16 z → SFits w16 (z -ℤ corner_at z)
apart_fits (pos a) h =
    rw (below_zero (4 * (a / 4) + 1) (4 * (a / 4)) (omega arith))
    (record { sfits = difference_below 32768 a (suc (4 * (a / 4))) h.sfits (omega (arith, h.sfits)) })
apart_fits (negsuc a) h =
    rw (corner_at_below a) (record { sfits = difference_below 32768 (suc (4 * (a / 4) + 2)) (suc a) (omega (arith, h.sfits)) (omega (arith, h.sfits)) })

-- ---- told apart by their bits

pub other_number : (x y : ℤ) → (of_z w16 y ≡ of_z w16 x → ⊥) → same_int x y ≡ false
other_number x y h = go (same_int x y) refl
  where
    go : (c : Bool) → same_int x y ≡ c → same_int x y ≡ false
    go true e = absurd (h (ap (of_z w16) (sym (same_int→eq x y e))))
    go false e = e

pub is_number : (z : ℤ) (n : ℕ) → SFits w16 z → of_z w16 z ≡ n → z ≡ to_z w16 n
is_number z n h e = sym (to_z-of_z w16 z h) ∙ ap (to_z w16) e
