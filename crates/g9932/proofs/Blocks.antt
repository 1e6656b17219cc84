-- Blocks of request R-1 among document 01's points: those of the labels with two bits more below a label's are a block of two by two, and
-- its corner tells the point of the label.
use Rattle.std.specs.Prelude.{Some}
use Prim.Native.Nat.{ℕ, zero, suc, ◌+◌, ◌-◌, ◌*◌, ◌/◌, ◌^◌, ◌≤◌, ◌<◌}
use mathlib.Core.Bool.{Bool, true, false, true≢false}
use mathlib.Core.List.{List, [], ◌∷◌}
use mathlib.Core.Path.{◌≡◌, refl, sym, ap, ◌∙◌}
use native.Mathlib.Nat.{pow-suc}
use native.Mathlib.Omega.{arith}
use borrow.Author.Tests.{lt-ltb, le-ltb, ne_eqb}
use lib.IntN.{ℤ, pos, negsuc, neg_ℤ, ◌+ℤ◌, ◌-ℤ◌, ◌*ℤ◌, -ℤ-+ℤ_cancel}
use lib.ListN.{length}
use lib.Signed.{shr_z}
use Rattle.g9932.specs.Bits.{weight, num, first}
use Rattle.g9932.specs.Plain.{smallest, block_corner, in_block, corner_at, corner_of, of_block}
use Rattle.g9932.specs.Points.{sign_bit, twos_complement, point_of, same_int, same_point}
use Rattle.g9932.specs.Sizes.{Point, point}
use Rattle.g9932.proofs.Constellations.{same_int_self, axes_point, point_coords}
use Rattle.g9932.proofs.Coordinates.{push, coords, axis_bits_pos, coords_length}
use Rattle.g9932.proofs.Words.{num_lt, weight_le}

-- ---- one coordinate: the corner of a block, and the point two beyond it

abbrev corner : ℤ → ℤ
corner t = pos 2 *ℤ t -ℤ pos 1

abbrev beyond : Bool → ℤ → ℤ
beyond false z = z
beyond true z = z +ℤ pos 2

pub below_zero : (n m : ℕ) → n ≡ suc m → neg_ℤ (pos n) ≡ negsuc m
below_zero n m e = rw e

corner_above : (m : ℕ) → corner (pos (2 * m + 1)) ≡ pos (4 * m + 1)
corner_above m = rw (le-ltb (2 * (2 * m + 1)) 1 (omega arith)) (ap pos (omega arith))

corner_below : (m : ℕ) → corner (negsuc (2 * m)) ≡ negsuc (4 * m + 2)
corner_below m = rw (below_zero (2 * suc (2 * m)) (4 * m + 1) (omega arith)) (ap negsuc (omega arith))

beyond_above : (c : Bool) (m : ℕ) → beyond c (pos (4 * m + 1)) ≡ pos (4 * m + 1 + 2 * weight c)
unfolding weight
beyond_above false m = ap pos (omega arith)
beyond_above true m = ap pos (omega arith)

beyond_below : (c : Bool) (m : ℕ) → beyond c (negsuc (4 * m + 2)) ≡ negsuc (4 * m + 2 - 2 * weight c)
unfolding weight
beyond_below false m = ap negsuc (omega arith)
beyond_below true m = rw (lt-ltb 2 (suc (4 * m + 2)) (omega arith)) (ap negsuc (omega arith))

pub corner_at_below : (q : ℕ) → corner_at (negsuc q) ≡ negsuc (4 * (q / 4) + 2)
corner_at_below q =
    rw (below_zero (4 * suc (q / 4)) (4 * (q / 4) + 3) (omega arith), lt-ltb 1 (suc (4 * (q / 4) + 3)) (omega arith)) (ap negsuc (omega arith))

-- z is a coordinate of the block of t: the corner, or the point beyond it; and the corner of z is this one
record Grows (c : Bool) (t z : ℤ) : Type 0 where
  is : z ≡ beyond c (corner t)
  at : corner_at z ≡ corner t

grows_above : (c : Bool) (m : ℕ) (t z : ℤ) → t ≡ pos (2 * m + 1) → z ≡ pos (4 * m + 1 + 2 * weight c) → Grows c t z
grows_above c m t z e f =
    let w = weight_le c in
    rw (e, f) (record {
      is = sym (ap (beyond c) (corner_above m) ∙ beyond_above c m);
      at = ap pos (omega arith) ∙ sym (corner_above m);
    })

grows_below : (c : Bool) (m : ℕ) (t z : ℤ) → t ≡ negsuc (2 * m) → z ≡ negsuc (4 * m + 2 - 2 * weight c) → Grows c t z
grows_below c m t z e f =
    let w = weight_le c in
    rw (e, f) (record {
      is = sym (ap (beyond c) (corner_below m) ∙ beyond_below c m);
      at = corner_at_below (4 * m + 2 - 2 * weight c) ∙ ap negsuc (omega arith) ∙ sym (corner_below m);
    })

-- a coordinate with one bit more, below the others but for the lowest, which is 1
coordinate_grows : (c x : Bool) (l : List Bool) → Grows c (twos_complement (true ∷ x ∷ l)) (twos_complement (true ∷ c ∷ x ∷ l))
unfolding twos_complement num weight
coordinate_grows c x l = go (sign_bit (x ∷ l)) refl
  where
    n : ℕ
    n = num (x ∷ l)

    k : ℕ
    k = 2 ^ length (x ∷ l)

    go : (s : Bool) → sign_bit (x ∷ l) ≡ s → Grows c (twos_complement (true ∷ x ∷ l)) (twos_complement (true ∷ c ∷ x ∷ l))
    go false e = grows_above c n _ _ (rw e (ap pos (omega arith))) (rw e (ap pos (omega arith)))
    go true e =
        let w = weight_le c in
        let h : n < k = num_lt (x ∷ l) in
        let p = pow-suc 2 (length (x ∷ l)) in
        let q = pow-suc 2 (suc (length (x ∷ l))) in
        grows_below c (k - suc n) _ _
        (rw e (below_zero (2 ^ length (true ∷ x ∷ l) - num (true ∷ x ∷ l)) (2 * (k - suc n)) (omega arith)))
        (rw e (below_zero (2 ^ length (true ∷ c ∷ x ∷ l) - num (true ∷ c ∷ x ∷ l)) (4 * (k - suc n) + 2 - 2 * weight c) (omega arith)))

-- the corner tells the coordinate,
halved : (t : ℤ) → shr_z (pos 2 *ℤ t) 2 ≡ t
halved (pos q) = ap pos (omega arith)
halved (negsuc q) = rw (below_zero (2 * suc q) (2 * q + 1) (omega arith)) (ap negsuc (omega arith))

from_corner : (t : ℤ) → shr_z (corner t +ℤ pos 1) 2 ≡ t
from_corner t = rw (-ℤ-+ℤ_cancel (pos 2 *ℤ t) (pos 1)) (halved t)

-- and every corner is that of one
corner_is : (z : ℤ) → (t : ℤ) × (corner_at z ≡ corner t)
corner_is (pos q) = (pos (2 * (q / 4) + 1), sym (corner_above (q / 4)))
corner_is (negsuc q) = (negsuc (2 * (q / 4)), corner_at_below q ∙ sym (corner_below (q / 4)))

corner_again : (z : ℤ) → corner (shr_z (corner_at z +ℤ pos 1) 2) ≡ corner_at z
corner_again z = let t = corner_is z in rw t.1 (ap corner (from_corner t.0))

-- ---- points

abbrev pt : {p q : Point} → p.px ≡ q.px → p.py ≡ q.py → p ≡ q
pt e f = λ i. record { px = e i; py = f i }

pub of_corner : (p : Point) → of_block (block_corner p) ≡ p
of_corner p = pt (from_corner p.px) (from_corner p.py)

pub corner_of_lem : (p : Point) → block_corner (of_block (corner_of p)) ≡ corner_of p
corner_of_lem p = pt (corner_again p.px) (corner_again p.py)

-- the place of the labels with these two lowest bits
abbrev pub low_place : Bool → Bool → ℕ
low_place a c = weight a + 2 * weight c

in_block_lem : (a c : Bool) (p : Point) → in_block (low_place a c) p ≡ point (beyond c p.px) (beyond a p.py)
unfolding weight
in_block_lem false false p = refl
in_block_lem true false p = refl
in_block_lem false true p = refl
in_block_lem true true p = refl

-- from 4 bits on, but 5, the coordinates are those of b − 2 bits with a bit more
push_coords : (a c : Bool) (v : List Bool) → smallest (suc (suc (length v))) ≡ false → coords (a ∷ c ∷ v) ≡ push a c (coords v)
push_coords a c [] h = absurd (true≢false h)
push_coords a c (d ∷ []) h = absurd (true≢false h)
push_coords a c (d ∷ e ∷ []) h = refl
push_coords a c (d ∷ e ∷ f ∷ []) h = absurd (true≢false h)
push_coords a c (d ∷ e ∷ f ∷ g ∷ v) h = refl

-- so X and Y grow, each by its bit
axes_grow : (a c : Bool) (xs ys : List Bool) → 1 ≤ length xs → 1 ≤ length ys
    → Grows c (twos_complement (true ∷ xs)) (twos_complement (true ∷ c ∷ xs)) × Grows a (twos_complement (true ∷ ys)) (twos_complement (true ∷ a ∷ ys))
axes_grow a c [] ys hx hy = absurd (omega arith)
axes_grow a c (x ∷ xs) [] hx hy = absurd (omega arith)
axes_grow a c (x ∷ xs) (y ∷ ys) hx hy = (coordinate_grows c x xs, coordinate_grows a y ys)

-- document 01's points: the block of a label's point has the points of the labels with two bits more below it,
pub record Block (b : ℕ) (a c : Bool) (v : List Bool) : Type 0 where
  pub is : point_of (suc (suc b)) (a ∷ c ∷ v) ≡ in_block (low_place a c) (block_corner (point_of b v))
  pub at : corner_of (point_of (suc (suc b)) (a ∷ c ∷ v)) ≡ block_corner (point_of b v)

some_bits : (v : List Bool) → smallest (suc (suc (length v))) ≡ false → 1 ≤ length v
some_bits [] h = absurd (true≢false h)
some_bits (x ∷ v) h = omega arith

pub block : (a c : Bool) (v : List Bool) → smallest (suc (suc (length v))) ≡ false → Block (length v) a c v
block a c v h =
    let n = axis_bits_pos (length v) (some_bits v h) in
    let k = coords_length v in
    let e : point_of (suc (suc (length v))) (a ∷ c ∷ v) ≡ axes_point (push a c (coords v)) = point_coords (a ∷ c ∷ v) ∙ ap axes_point (push_coords a c v h) in
    let f : axes_point (coords v) ≡ point_of (length v) v = sym (point_coords v) in
    let g = axes_grow a c (coords v).xs (coords v).ys (rw k.0 n) (rw k.1 n) in
    record {
      is =
          e ∙ pt g.0.is g.1.is ∙ sym (in_block_lem a c (block_corner (axes_point (coords v))))
          ∙ ap (λ (p : Point). in_block (low_place a c) (block_corner p)) f;
      at = ap corner_of e ∙ pt g.0.at g.1.at ∙ ap block_corner f;
    }

-- and a point of the block is found there
two_apart : (z : ℤ) → same_int z (z +ℤ pos 2) ≡ false
two_apart (pos n) = ne_eqb n (n + 2) (λ e. omega arith)
two_apart (negsuc zero) = refl
two_apart (negsuc (suc zero)) = refl
two_apart (negsuc (suc (suc n))) = rw (lt-ltb 2 (suc (suc (suc n))) (omega arith)) (ne_eqb (suc (suc n)) (suc (suc (suc n)) - 3) (λ e. omega arith))

pub low_place_lem : (a c : Bool) (p : Point) → first (λ k. same_point (in_block k p) (in_block (low_place a c) p)) 4 ≡ Some (low_place a c)
unfolding first weight
low_place_lem false false p = rw (same_int_self p.px, same_int_self p.py)
low_place_lem true false p = rw (same_int_self p.px, same_int_self (p.py +ℤ pos 2), two_apart p.py)
low_place_lem false true p = rw (same_int_self (p.px +ℤ pos 2), same_int_self p.py, two_apart p.px)
low_place_lem true true p = rw (same_int_self (p.px +ℤ pos 2), same_int_self (p.py +ℤ pos 2), two_apart p.px, two_apart p.py)
