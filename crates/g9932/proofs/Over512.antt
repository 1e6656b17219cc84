-- Request R-4: 512ths as 32-bit floats. Gain times coordinate has at most 24 binary digits, so the float nearest to it is it; and 512 is a
-- power of two, so the quotient has no more digits. Neither step rounds.
use Prim.Native.Nat.{ℕ, zero, suc, ◌+◌, ◌-◌, ◌*◌, ◌/◌, ◌^◌, ◌≤◌, ◌<◌}
use mathlib.Core.Bool.{Bool, true, false, cond}
use mathlib.Core.Path.{◌≡◌, refl, sym, ap, ◌∙◌}
use native.Mathlib.Omega.{arith}
use native.Mathlib.Nat.{lt_trans, mul-lt-mul_of_pos_right, mul-le-mul_right, mul-pos, mul_assoc, mul_comm, mul_right_comm}
use borrow.Author.Tests.{ltb-true, ltb-false, lt-ltb, le-ltb, le-leb, lt-leb, leb-true, leb-false}
use lib.Count.{count_trailing_zeros}
use lib.Dec.{T, ltb, leb, ltb→lt}
use lib.IntN.{ℤ, pos, negsuc, nat_abs}
use lib.Ieee.{Float, nan, inf, fin, binary32, up, down, minus, odd, round, of_int, of_bits, div, neg, lt, fits, to_bits, size, unlike, hid, top}
use lib.Ieee.Back.{round_whole}
use lib.Ieee.Bits.{of_bits-to_bits}
use lib.Ieee.Exact.{HasValue, odd_sign, round_exact}
use lib.Ieee.Fits.{down_pos, odd-fits, round-fits}
use lib.Ieee.Nearest.{div_same}
use Rattle.g9932.specs.Drive.{is_negative, Times512, over512}

-- ---- the definition

-- 512 times z / 512 is z
pub times_over : (z : ℤ) → Times512 (over512 z) z
unfolding over512
times_over z = let e : nat_abs z * 2 ^ 0 ≡ nat_abs z = omega arith in rw e at (odd_sign 24 (is_negative z) (nat_abs z) 0 9)

-- in units of the smallest float, 2 to the −149
in_units : (t : ℕ) → minus (140 + t) 149 ≡ minus (0 + t) 9
in_units t = go (leb 9 t) refl
  where
    go : (b : Bool) → leb 9 t ≡ b → minus (140 + t) 149 ≡ minus (0 + t) 9
    go true e =
        let h = leb-true 9 t e in
        let w : leb 149 (140 + t) ≡ true = le-leb 149 (140 + t) (omega arith) in
        let u : leb 9 (0 + t) ≡ true = le-leb 9 (0 + t) (omega arith) in
        let n : 140 + t - 149 ≡ 0 + t - 9 = omega arith in
        rw (w, u, n)
    go false e =
        let h = leb-false 9 t e in
        let w : leb 149 (140 + t) ≡ false = lt-leb 149 (140 + t) (omega arith) in
        let u : leb 9 (0 + t) ≡ false = lt-leb 9 (0 + t) (omega arith) in
        let n : 149 - suc (140 + t) ≡ 9 - suc (0 + t) = omega arith in
        rw (w, u, n)

units_over : (s : Bool) (q : ℕ) → odd 24 s q 140 149 ≡ odd 24 s q 0 9
unfolding odd
units_over s zero = refl
units_over s (suc q) = ap (fin s (suc q / 2 ^ count_trailing_zeros 24 (suc q))) (in_units (count_trailing_zeros 24 (suc q)))

-- an f32 holds it
pub over_fits : (z : ℤ) → nat_abs z < 2 ^ 24 → T (fits binary32 (over512 z))
unfolding over512
over_fits z h =
    let n = nat_abs z in
    let most : n * 2 ^ 140 < 2 ^ 277 = lt_trans (mul-lt-mul_of_pos_right h (ltb→lt 0 (2 ^ 140) tt)) (ltb→lt (2 ^ 24 * 2 ^ 140) (2 ^ 277) tt) in
    rw (units_over (is_negative z) n) at (odd-fits binary32 24 (is_negative z) n 140 h (omega (arith, h)) most)

-- ---- a float is its sign and its size

-- the bits that a finite float has are those of its size in units of the smallest
bits_by : Bool → ℕ → ℕ
unfolding size
bits_by s n = let k = size n - 24 in cond s (top binary32) 0 + k * hid binary32 + n / 2 ^ k

value_bits : (x : Float) (s : Bool) (a c : ℕ) → 0 < c → HasValue x s a c → to_bits binary32 x ≡ bits_by s (a * 2 ^ 149 / c)
unfolding to_bits size bits_by
value_bits (fin t m e) s a c h v =
    let n : m * up e * 2 ^ 149 / down e ≡ a * 2 ^ 149 / c =
    div_same (m * up e * 2 ^ 149) (down e) (a * 2 ^ 149) c (down_pos e) h (mul_right_comm (m * up e) (2 ^ 149) c ∙ ap (λ (k : ℕ). k * 2 ^ 149) v.1 ∙ mul_right_comm a (down e) (2 ^ 149)) in
    rw (v.0, n)
value_bits nan s a c h v = elim v [ ]
value_bits (inf _) s a c h v = elim v [ ]

-- so two floats of one sign and one size are one
pub same_value : (x y : Float) (s : Bool) (a c b d : ℕ) → 0 < c → 0 < d → T (fits binary32 x) → T (fits binary32 y)
    → HasValue x s a c → HasValue y s b d → a * d ≡ b * c → x ≡ y
same_value x y s a c b d hc hd fx fy vx vy e =
    let n : a * 2 ^ 149 / c ≡ b * 2 ^ 149 / d =
    div_same (a * 2 ^ 149) c (b * 2 ^ 149) d hc hd (mul_right_comm a (2 ^ 149) d ∙ ap (λ (k : ℕ). k * 2 ^ 149) e ∙ mul_right_comm b c (2 ^ 149)) in
    sym (of_bits-to_bits binary32 x fx)
    ∙ ap (of_bits binary32) (value_bits x s a c hc vx ∙ ap (bits_by s) n ∙ sym (value_bits y s b d hd vy))
    ∙ of_bits-to_bits binary32 y fy

-- so z / 512 is the only float that 512 times is z
pub only_over : (v : Float) (z : ℤ) → nat_abs z < 2 ^ 24 → T (fits binary32 v) → Times512 v z → v ≡ over512 z
only_over v z h f t =
    same_value v (over512 z) (is_negative z) (nat_abs z) 512 (nat_abs z) 512 (ltb→lt 0 512 tt) (ltb→lt 0 512 tt) f (over_fits z h) t (times_over z) refl

-- ---- the arithmetic

abbrev pub five_twelve : Float
five_twelve = fin false 1 (pos 9)

-- a whole number of at most 24 binary digits, as an f32, is it
whole_value : (z : ℤ) → nat_abs z < 2 ^ 24 → HasValue (of_int binary32 z) (is_negative z) (nat_abs z) 1
unfolding of_int
whole_value (pos n) h = round_whole binary32 false n (omega (arith, h))
whole_value (negsuc n) h = round_whole binary32 true (suc n) (omega (arith, h))

-- a quotient by 512 of such a float
quotient : (x : Float) (z : ℤ) → nat_abs z < 2 ^ 24 → HasValue x (is_negative z) (nat_abs z) 1 → div binary32 x five_twelve ≡ over512 z
unfolding div
quotient (fin t m e) z h v =
    let s : unlike t false ≡ is_negative z = go t ∙ v.0 in
    let num = m * up e * 1 in
    let den = 1 * 512 * down e in
    let dp : 0 < den = mul-pos (ltb→lt 0 (1 * 512) tt) (down_pos e) in
    let q : num ≡ nat_abs z * down e = v.1 in
    let units : num * 2 ^ 149 ≡ nat_abs z * 2 ^ 140 * den =
    ap (λ (k : ℕ). k * 2 ^ 149) q ∙ exact (nat_abs z) (down e) in
    let most : nat_abs z * 2 ^ 140 < 2 ^ 277 = lt_trans (mul-lt-mul_of_pos_right h (ltb→lt 0 (2 ^ 140) tt)) (ltb→lt (2 ^ 24 * 2 ^ 140) (2 ^ 277) tt) in
    same_value (round binary32 (unlike t false) num den) (over512 z) (is_negative z) num den (nat_abs z) 512 dp (ltb→lt 0 512 tt)
    (round-fits binary32 (unlike t false) num den) (over_fits z h)
    (rw s (round_exact binary32 (is_negative z) num den (nat_abs z) 140 dp h most units)) (times_over z)
    (ap (λ (k : ℕ). k * 512) q ∙ over (nat_abs z) (down e))
  where
    go : (b : Bool) → unlike b false ≡ b
    go true = refl
    go false = refl

    exact : (a d : ℕ) → a * d * 2 ^ 149 ≡ a * 2 ^ 140 * (1 * 512 * d)
    exact a d = mul_right_comm a d (2 ^ 149) ∙ ap (λ (k : ℕ). k * d) (sym (mul_assoc a (2 ^ 140) 512)) ∙ mul_assoc (a * 2 ^ 140) 512 d

    over : (a d : ℕ) → a * d * 512 ≡ a * (1 * 512 * d)
    over a d = mul_assoc a d 512 ∙ ap (λ (k : ℕ). a * k) (mul_comm d 512)
quotient nan z h v = elim v [ ]
quotient (inf _) z h v = elim v [ ]

-- The cast and the division of the code: of a whole number below 2 to the 24 in size, neither rounds.
pub no_rounding : (z : ℤ) → nat_abs z < 2 ^ 24 → div binary32 (of_int binary32 z) five_twelve ≡ over512 z
no_rounding z h = quotient (of_int binary32 z) z h (whole_value z h)

-- ---- the order of sizes

-- two fractions of one denominator, by their floats
below_is : (x y a b d : ℕ) → 0 < d → x * 512 ≡ a * d → y * 512 ≡ b * d → ltb x y ≡ ltb a b
below_is x y a b d h ex ey = go (ltb a b) refl
  where
    go : (t : Bool) → ltb a b ≡ t → ltb x y ≡ t
    go true e =
        let k : a * d < b * d = mul-lt-mul_of_pos_right (ltb-true a b e) h in
        lt-ltb x y (omega arith)
    go false e =
        let k : b * d ≤ a * d = mul-le-mul_right d (ltb-false a b e) in
        le-ltb x y (omega arith)

-- of two that are not negative
pub lt_over : (a b : ℕ) → lt (over512 (pos a)) (over512 (pos b)) ≡ ltb a b
unfolding lt
lt_over a b = go (over512 (pos a)) (over512 (pos b)) (times_over (pos a)) (times_over (pos b))
  where
    go : (x y : Float) → Times512 x (pos a) → Times512 y (pos b) → lt x y ≡ ltb a b
    go (fin s m e) (fin t n d) v w =
        rw (v.0, w.0)
        (below_is (m * up e * down d) (n * up d * down e) a b (down e * down d) (mul-pos (down_pos e) (down_pos d))
        (mul_right_comm (m * up e) (down d) 512 ∙ ap (λ (k : ℕ). k * down d) v.1 ∙ mul_assoc a (down e) (down d))
        (mul_right_comm (n * up d) (down e) 512 ∙ ap (λ (k : ℕ). k * down e) w.1 ∙ mul_assoc b (down d) (down e) ∙ ap (λ (k : ℕ). b * k) (mul_comm (down d) (down e))))
    go nan y v w = elim v [ ]
    go (inf _) y v w = elim v [ ]
    go (fin s m e) nan v w = elim w [ ]
    go (fin s m e) (inf _) v w = elim w [ ]

-- which ones are below 0
pub negative_over : (z : ℤ) → lt (over512 z) (over512 (pos 0)) ≡ is_negative z
unfolding lt
negative_over (pos n) = lt_over n 0 ∙ le-ltb n 0 (omega arith)
negative_over (negsuc n) = go (over512 (negsuc n)) (over512 (pos 0)) (times_over (negsuc n)) (times_over (pos 0))
  where
    go : (x y : Float) → Times512 x (negsuc n) → Times512 y (pos 0) → lt x y ≡ true
    go (fin s m e) (fin t k d) v w =
        let h : 0 < suc n * down e = mul-pos (omega arith) (down_pos e) in
        let i : 0 < m * up e = omega (arith, v.1) in
        let j : 0 < m * up e * down d = mul-pos i (down_pos d) in
        rw (v.0, w.0) (lt-ltb 0 (m * up e * down d + k * up d * down e) (omega arith))
    go nan y v w = elim v [ ]
    go (inf _) y v w = elim v [ ]
    go (fin s m e) nan v w = elim w [ ]
    go (fin s m e) (inf _) v w = elim w [ ]

-- the size of a negative one
pub size_over : (n : ℕ) → neg (over512 (negsuc n)) ≡ over512 (pos (suc n))
unfolding neg over512 odd
size_over n = refl
