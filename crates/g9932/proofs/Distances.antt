-- Laws of nearest reading's definitions: points have distance 0 from themselves alone; what a total of 0 says of the loaded tones and,
-- with the tones that carry no data, of the whole symbol; and the coordinates of written points are in range, turned by half a turn too.
use Prim.Native.Nat.{ℕ, zero, suc, ◌+◌, ◌*◌, ◌-◌, ◌^◌, ◌≤◌, ◌<◌}
use mathlib.Core.Bool.{Bool, true, false, cond, ◌||◌}
use mathlib.Core.List.{List, [], ◌∷◌, ◌++◌, map}
use mathlib.Core.Path.{◌≡◌, refl, sym, ap, ap₂, ◌∙◌}
use native.Mathlib.Omega.{arith}
use borrow.Author.Tests.{le-ltb, not-false}
use lib.IntN.{ℤ, pos, negsuc, neg_ℤ, nat_abs, ◌+ℤ◌, ◌-ℤ◌, +ℤ_invr, +ℤ_idl, -ℤ-+ℤ_cancel}
use lib.ListN.{length, take, drop, get_or, length-drop}
use lib.Pow.{pow_mono}
use lib.Seq.{take_at, drop_at, length-take-le}
use Rattle.g9932.specs.Bits.{num}
use Rattle.g9932.specs.Sizes.{Tables, entry, Point, origin}
use Rattle.g9932.specs.Points.{sign_bit, twos_complement, point_of, negated, label_of, label_bits}
use Rattle.g9932.specs.Filler.{drawn, after_draws, draws}
use Rattle.g9932.specs.Symbol.{classes_by, reordered_tones_of, classes_of, load, tone_point, write_points, tone_bits, gather_bits, in_constellation}
use Rattle.g9932.specs.Nearest.{apart, squared_distance, tone_distance, total_of, out_of_range, range_test}
use Rattle.g9932.specs.declared.Class.{Class}
use Rattle.g9932.specs.declared.Class.TheVariants.{Data, Monitored, Silent}
use Rattle.g9932.proofs.Accepted.{Accepted}
use Rattle.g9932.proofs.Constellations.{point_coords}
use Rattle.g9932.proofs.Coordinates.{coords, axis_bits, coords_length}
use Rattle.g9932.proofs.Labels.{label_back}
use Rattle.g9932.proofs.Sent.{load_classes}
use Rattle.g9932.proofs.Symbols.{loads, OnGrid}
use Rattle.g9932.proofs.Words.{num_lt}

-- ---- two points

apart_self : (z : ℤ) → apart z z ≡ 0
apart_self z = ap nat_abs (+ℤ_invr z)

abs_zero : (z : ℤ) → nat_abs z ≡ 0 → z ≡ pos 0
abs_zero (pos n) e = ap pos e
abs_zero (negsuc n) e = absurd (omega arith)

apart_zero : (a b : ℤ) → apart a b ≡ 0 → a ≡ b
apart_zero a b e = sym (-ℤ-+ℤ_cancel a b) ∙ ap (λ (z : ℤ). z +ℤ b) (abs_zero (a -ℤ b) e) ∙ +ℤ_idl b

square_zero : (n m : ℕ) → n * n + m ≡ 0 → n ≡ 0
square_zero zero m e = refl
square_zero (suc n) m e = absurd (omega (arith, e))

square_zero' : (n m : ℕ) → m + n * n ≡ 0 → n ≡ 0
square_zero' zero m e = refl
square_zero' (suc n) m e = absurd (omega (arith, e))

distance_self : (p : Point) → squared_distance p p ≡ 0
distance_self p =
    let a = apart_self p.px in
    let b = apart_self p.py in
    λ i. a i * a i + b i * b i

distance_zero : (p q : Point) → squared_distance p q ≡ 0 → p ≡ q
distance_zero p q e =
    let a : ℕ = apart p.px q.px in
    let b : ℕ = apart p.py q.py in
    let ex = apart_zero p.px q.px (square_zero a (b * b) e) in
    let ey = apart_zero p.py q.py (square_zero' b (a * a) e) in
    λ i. record { px = ex i; py = ey i }

-- ---- the total

none_left : (m n : ℕ) → m + n ≡ 0 → (m ≡ 0) × (n ≡ 0)
none_left m n h = (omega arith, omega arith)

tone_self : (c : Class) (p : Point) → tone_distance c p p ≡ 0
tone_self (Data n) p = distance_self p
tone_self Monitored p = omega (arith, distance_self p)
tone_self Silent p = refl

pub total_self : (cs : List Class) (q : List Point) → total_of cs q q ≡ 0
unfolding total_of
total_self [] q = refl
total_self (c ∷ cs) [] = refl
total_self (c ∷ cs) (p ∷ q) = omega (arith, tone_self c p, total_self cs q)

-- at total 0 the loaded tones have the same bits
tone_same : (c : Class) (p q : Point) → tone_distance c p q ≡ 0 → tone_bits c p ≡ tone_bits c q
tone_same (Data n) p q h = ap (λ (z : Point). label_bits (label_of n z)) (distance_zero p q h)
tone_same Monitored p q h = refl
tone_same Silent p q h = refl

pub total_bits : (cs : List Class) (p q : List Point) → length p ≡ length cs → length q ≡ length cs → total_of cs p q ≡ 0
    → gather_bits cs p ≡ gather_bits cs q
unfolding total_of gather_bits
total_bits [] p q lp lq h = refl
total_bits (c ∷ cs) [] q lp lq h = absurd (omega arith)
total_bits (c ∷ cs) (x ∷ p) [] lp lq h = absurd (omega arith)
total_bits (c ∷ cs) (x ∷ p) (y ∷ q) lp lq h =
    let z = none_left (tone_distance c x y) (total_of cs p q) h in
    ap₂ (λ (a b : List Bool). a ++ b) (tone_same c x y z.0) (total_bits cs p q (omega arith) (omega arith) z.1)

tone_equal : (c : Class) (p q : Point) → tone_distance c p q ≡ 0 → (load c ≡ 0 → p ≡ q) → p ≡ q
tone_equal (Data n) p q h u = distance_zero p q h
tone_equal Monitored p q h u = u refl
tone_equal Silent p q h u = u refl

-- where the tones that carry no data agree too, all points are the same
pub total_equal : (cs : List Class) (p q : List Point) → length p ≡ length cs → length q ≡ length cs → total_of cs p q ≡ 0
    → ((k : ℕ) → k < length cs → load (get_or cs k Silent) ≡ 0 → get_or p k origin ≡ get_or q k origin) → p ≡ q
unfolding total_of
total_equal [] [] [] lp lq h u = refl
total_equal [] (x ∷ p) q lp lq h u = absurd (omega arith)
total_equal [] [] (y ∷ q) lp lq h u = absurd (omega arith)
total_equal (c ∷ cs) [] q lp lq h u = absurd (omega arith)
total_equal (c ∷ cs) (x ∷ p) [] lp lq h u = absurd (omega arith)
total_equal (c ∷ cs) (x ∷ p) (y ∷ q) lp lq h u =
    let z = none_left (tone_distance c x y) (total_of cs p q) h in
    let e = tone_equal c x y z.0 (u 0 (omega arith)) in
    let r = total_equal cs p q (omega arith) (omega arith) z.1 (λ k l. u (suc k) (omega arith)) in
    λ i. e i ∷ r i

-- points of the constellations have total 0 from what is written for their own bits
module _ (r : ℕ) where
  tone_back : (c : Class) (p : Point) (d : List Bool) → in_constellation c p ≡ true → tone_distance c p (tone_point r c (tone_bits c p ++ d)) ≡ 0
  tone_back (Data n) p d h =
      let b = label_back n p h in
      rw (take_at (label_bits (label_of n p)) d n b.0, b.1) (distance_self p)
  tone_back Monitored p d h = refl
  tone_back Silent p d h = refl

tone_load : (c : Class) (p : Point) → in_constellation c p ≡ true → length (tone_bits c p) ≡ load c
tone_load (Data n) p h = (label_back n p h).0
tone_load Monitored p h = refl
tone_load Silent p h = refl

pub total_gathered : (r : ℕ) (cs : List Class) (q : List Point) → length q ≡ length cs → OnGrid cs q
    → total_of cs q (write_points r cs (gather_bits cs q)) ≡ 0
unfolding total_of write_points gather_bits
total_gathered r [] q l on = refl
total_gathered r (c ∷ cs) [] l on = refl
total_gathered r (c ∷ cs) (p ∷ q) l on =
    let i : in_constellation c p ≡ true = not-false (in_constellation c p) (on 0 (omega arith)) in
    let t = total_gathered (after_draws (draws c) r) cs q (omega arith) (λ k h. on (suc k) (omega arith)) in
    let z = tone_back r c p (gather_bits cs q) i in
    rw (drop_at (tone_bits c p) (gather_bits cs q) (load c) (tone_load c p i)) (omega (arith, z, t))

-- ---- the range of written coordinates

abs_neg : (z : ℤ) → nat_abs (neg_ℤ z) ≡ nat_abs z
abs_neg (pos zero) = refl
abs_neg (pos (suc n)) = refl
abs_neg (negsuc n) = refl

twos_most : (l : List Bool) → nat_abs (twos_complement l) ≤ 2 ^ length l
unfolding twos_complement
twos_most l = go (sign_bit l)
  where
    go : (s : Bool) → nat_abs (cond s (neg_ℤ (pos (2 ^ length l - num l))) (pos (num l))) ≤ 2 ^ length l
    go true = omega (arith, abs_neg (pos (2 ^ length l - num l)))
    go false = omega (arith, num_lt l)

axis_most : (n : ℕ) → 2 * axis_bits n ≤ n + 1
axis_most zero = omega arith
axis_most (suc zero) = omega arith
axis_most (suc (suc zero)) = omega arith
axis_most (suc (suc (suc zero))) = omega arith
axis_most (suc (suc (suc (suc zero)))) = omega arith
axis_most (suc (suc (suc (suc (suc zero))))) = omega arith
axis_most (suc (suc (suc (suc (suc (suc n)))))) = omega (arith, axis_most (suc (suc (suc (suc n)))))

-- within the range
abbrev pub InRange : Point → Type 0
InRange p = (nat_abs p.px ≤ 1023) × (nat_abs p.py ≤ 1023)

axis_range : (l : List Bool) → length l ≤ 8 → nat_abs (twos_complement (true ∷ l)) ≤ 1023
axis_range l h =
    let p : 2 ^ suc (length l) ≤ 2 ^ 9 = pow_mono {i = suc (length l)} {j = 9} (omega arith) in
    omega (arith, twos_most (true ∷ l), p)

pub point_range : (b : ℕ) (v : List Bool) → b ≤ 15 → length v ≡ b → InRange (point_of b v)
point_range b v h l =
    let e : point_of b v ≡ point_of (length v) v = ap (λ (n : ℕ). point_of n v) (sym l) in
    let k = coords_length v in
    let a = axis_most (length v) in
    rw (e, point_coords v) (axis_range (coords v).xs (omega (arith, k.0)), axis_range (coords v).ys (omega (arith, k.1)))

tone_range : (r : ℕ) (c : Class) (d : List Bool) → load c ≤ 15 → load c ≤ length d → InRange (tone_point r c d)
tone_range r (Data n) d h l = point_range n (take n d) h (length-take-le n d l)
tone_range r Monitored d h l = point_range 2 (drawn 2 r) (omega arith) refl
tone_range r Silent d h l = (omega arith, omega arith)

in_range : (p : Point) → InRange p → out_of_range p.px || out_of_range p.py ≡ false
in_range p h = rw (le-ltb 1023 (nat_abs p.px) h.0, le-ltb 1023 (nat_abs p.py) h.1)

write_range : (r : ℕ) (cs : List Class) (d : List Bool) → length d ≡ loads cs → ((k : ℕ) → load (get_or cs k Silent) ≤ 15)
    → (k : ℕ) → k < length cs → range_test (write_points r cs d) k ≡ false
unfolding write_points
write_range r [] d l most k h = absurd (omega arith)
write_range r (c ∷ cs) d l most zero h = in_range (tone_point r c d) (tone_range r c d (most 0) (omega arith))
write_range r (c ∷ cs) d l most (suc k) h =
    write_range (after_draws (draws c) r) cs (drop (load c) d) (simp length-drop (omega arith)) (λ j. most (suc j)) k (omega arith)

most_load : (b g t : List ℕ) → ((k : ℕ) → entry b k ≤ 15) → (k : ℕ) → load (get_or (classes_by b g t) k Silent) ≤ 15
most_load b g [] h k = omega arith
most_load b g (j ∷ t) h zero = omega (arith, h j, ap (λ (l : List ℕ). get_or l 0 0) (load_classes b g (j ∷ [])))
most_load b g (j ∷ t) h (suc k) = most_load b g t h k

-- no place of a written symbol of accepted tables is refused by 23,
pub written_range : (T : Tables) → Accepted T → (r : ℕ) (d : List Bool) → length d ≡ loads (classes_of T) → (k : ℕ) → k < length (classes_of T)
    → range_test (write_points r (classes_of T) d) k ≡ false
written_range T a r d l = write_range r (classes_of T) d l (most_load T.bits T.gains (reordered_tones_of T) a.bits_most)

-- nor is one of the opposite points
pub opposite_range : (q : List Point) (k : ℕ) → range_test (map negated q) k ≡ range_test q k
opposite_range [] k = refl
opposite_range (p ∷ q) zero = rw (abs_neg p.px, abs_neg p.py)
opposite_range (p ∷ q) (suc k) = opposite_range q k
