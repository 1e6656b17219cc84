-- Comparing points by their coordinates, and the opposite of a point of 2 bits.
use Rattle.std.proofs.Common.{◌≡◌, Bool, ◌&&◌, true, false, [], ◌∷◌, ℤ, pos, negsuc, neg_ℤ, ◌-ℤ◌, FitsSigned, to_z, of_z, int_eq, refl, ap₂, arith}
use Rattle.std.proofs.lemmas.Bool.Decides.{same_from_decides, Decides-int_eq}
use mir.Syntax.{w16}
use Rattle.g9932.specs.Bits.{weight, num}
use Rattle.g9932.specs.Points.{twos_complement, point_of, same_int, same_point}
use Rattle.g9932.specs.Sizes.{Point}
use Rattle.g9932.proofs.Constellations.{same_int_self, same_int→eq}

int_eq_same : (a b : ℤ) → int_eq a b ≡ same_int a b
int_eq_same a b = same_from_decides (int_eq a b) (same_int a b) (Decides-int_eq a b) (same_int→eq a b, λ e. rw e (same_int_self b))

pub same_points : (p q : Point) → int_eq p.px q.px && int_eq p.py q.py ≡ same_point p q
same_points p q = ap₂ ◌&&◌ (int_eq_same p.px q.px) (int_eq_same p.py q.py)

-- the opposite as the code makes it
abbrev pub opposite_of : ℤ → ℤ
opposite_of z = to_z w16 (of_z w16 (pos 0 -ℤ to_z w16 (of_z w16 z)))

-- a coordinate of 2 bits
pub record Unit16 (z : ℤ) : Type 0 where
  pub fits_opposite : FitsSigned w16 (pos 0 -ℤ to_z w16 (of_z w16 z))
  pub opposite : opposite_of z ≡ neg_ℤ z

plus_one : Unit16 (pos 1)
plus_one = record { fits_opposite = record { sfits = omega arith }; opposite = refl }

minus_one : Unit16 (negsuc 0)
minus_one = record { fits_opposite = record { sfits = omega arith }; opposite = refl }

pub two_bit_units : (a b : Bool) → Unit16 (point_of 2 (a ∷ b ∷ [])).px × Unit16 (point_of 2 (a ∷ b ∷ [])).py
unfolding point_of twos_complement num weight
two_bit_units true true = (minus_one, minus_one)
two_bit_units true false = (plus_one, minus_one)
two_bit_units false true = (minus_one, plus_one)
two_bit_units false false = (plus_one, plus_one)
