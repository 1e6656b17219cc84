-- The place of a point in its block, by how far the point is from the corner.
use Prim.Native.Nat.{ℕ, zero, suc}
use mathlib.Core.Bool.{true, ◌&&◌}
use mathlib.Core.Path.{◌≡◌, sym, ap, ap₂, ◌∙◌}
use lib.IntN.{ℤ, pos, ◌+ℤ◌, ◌-ℤ◌, +ℤ_comm, +ℤ_idr, +ℤ-neg_ℤ_cancel, -ℤ-+ℤ_cancel}
use Rattle.g9932.specs.Bits.{first}
use Rattle.g9932.specs.Plain.{in_block, corner_of, low_label}
use Rattle.g9932.specs.Points.{same_int, same_point}
use Rattle.g9932.specs.Sizes.{Point, point, origin}
use Rattle.g9932.proofs.Constellations.{same_int_self, same_int→eq}
use Rattle.g9932.proofs.Identities.{both_ways}
use Rattle.g9932.proofs.Search.{first_ext}

-- z is at a from c
from : (c a z : ℤ) → same_int (c +ℤ a) z ≡ same_int a (z -ℤ c)
from c a z = both_ways (same_int (c +ℤ a) z) (same_int a (z -ℤ c)) there back
  where
    there : same_int (c +ℤ a) z ≡ true → same_int a (z -ℤ c) ≡ true
    there e =
        let f : z -ℤ c ≡ a = ap (λ (w : ℤ). w -ℤ c) (sym (same_int→eq (c +ℤ a) z e) ∙ +ℤ_comm c a) ∙ +ℤ-neg_ℤ_cancel a c in
        rw f (same_int_self a)

    back : same_int a (z -ℤ c) ≡ true → same_int (c +ℤ a) z ≡ true
    back e =
        let f : c +ℤ a ≡ z = ap (λ (w : ℤ). c +ℤ w) (same_int→eq a (z -ℤ c) e) ∙ +ℤ_comm c (z -ℤ c) ∙ -ℤ-+ℤ_cancel z c in
        rw f (same_int_self z)

at : (c z : ℤ) → same_int c z ≡ same_int (pos 0) (z -ℤ c)
at c z = ap (λ (w : ℤ). same_int w z) (sym (+ℤ_idr c)) ∙ from c (pos 0) z

-- as seen from the corner
abbrev seen : Point → Point → Point
seen c p = point (p.px -ℤ c.px) (p.py -ℤ c.py)

place_seen : (k : ℕ) (c p : Point) → same_point (in_block k c) p ≡ same_point (in_block k origin) (seen c p)
place_seen zero c p = ap₂ ◌&&◌ (at c.px p.px) (at c.py p.py)
place_seen (suc zero) c p = ap₂ ◌&&◌ (at c.px p.px) (from c.py (pos 2) p.py)
place_seen (suc (suc zero)) c p = ap₂ ◌&&◌ (from c.px (pos 2) p.px) (at c.py p.py)
place_seen (suc (suc (suc k))) c p = ap₂ ◌&&◌ (from c.px (pos 2) p.px) (from c.py (pos 2) p.py)

pub low_seen : (p c : Point) → c ≡ corner_of p → first (λ k. same_point (in_block k origin) (seen c p)) 4 ≡ low_label p
low_seen p c e =
    rw e (first_ext (λ k. same_point (in_block k origin) (seen (corner_of p) p)) (λ k. same_point (in_block k (corner_of p)) p) 4 (λ k h. sym (place_seen k (corner_of p) p)))
