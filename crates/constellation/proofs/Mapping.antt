-- The point of a label is the one whose coordinates have the bits of its word: once for every bit count, by two bits at a time.
-- Table 10-3, b = 1 and b = 3 are tests of all labels of 1 to 5 bits.
use Rattle.std.specs.Prelude.{None}
use Prim.Native.Nat.{ℕ, zero, suc, ◌+◌, ◌-◌, ◌*◌, ◌/◌, ◌%◌, ◌^◌, ◌≤◌, ◌<◌}
use mathlib.Core.Bool.{Bool, true, false, not, cond}
use mathlib.Core.List.{List, [], ◌∷◌}
use mathlib.Core.Path.{◌≡◌, refl, sym, ap, ap₂, ◌∙◌}
use native.Mathlib.Nat.{pow-suc}
use native.Mathlib.Omega.{arith}
use borrow.Author.Tests.{eqb-true, not-false, lt-ltb, le-ltb}
use lib.Dec.{eqb}
use lib.IntN.{pos}
use lib.ListN.{length}
use lib.Pow.{shr-shr, mod-pow-add}
use Rattle.g9932.specs.Bits.{weight, num, odd, bits, first}
use Rattle.g9932.specs.Sizes.{point}
use Rattle.g9932.specs.Points.{point_of, sign_bit, twos_complement, evens, odds}
use Rattle.g9932.proofs.Words.{num_lt, length_bits}
use Rattle.g9932.proofs.Search.{first_no}
use Rattle.g9932.proofs.Coordinates.{three, five, coords, axis_bits_pos, coords_length}
use Rattle.g9932.proofs.Constellations.{point_coords}
use Rattle.constellation.proofs.Lanes.{twice}
use Rattle.constellation.proofs.Sizes.{own_bits_lem, word_lt, bits_lt, half_le}
use Rattle.constellation.specs.Widened.{plain_pairs, top_five, top_four, widened_label, label_word, x_bits, y_bits, coordinate_of, sign_weight}

-- two functions of numbers agree below n, by a test of all of them
pub rule : (f g : ℕ → ℕ) (n : ℕ) → first (λ k. not (eqb (f k) (g k))) n ≡ None → (k : ℕ) → k < n → f k ≡ g k
rule f g n e k h = eqb-true (f k) (g k) (not-false (eqb (f k) (g k)) (first_no (λ k. not (eqb (f k) (g k))) n e k h))

-- ---- a coordinate by its bits: e is what the bits xs are with k bits below Xd and the sign bit complemented

abbrev sign : List Bool → ℕ
sign xs = cond (sign_bit xs) (2 ^ length xs) 0

abbrev Axis : ℕ → List Bool → ℕ → Type 0
Axis k xs e = 2 * 2 ^ k + num xs ≡ e + sign xs

sign_cons : (a : Bool) (xs : List Bool) → 1 ≤ length xs → sign_bit (a ∷ xs) ≡ sign_bit xs
sign_cons a [] h = absurd (omega arith)
sign_cons a (x ∷ xs) h = refl

twice_sign : (s : Bool) (n : ℕ) → cond s (2 ^ suc n) 0 ≡ 2 * cond s (2 ^ n) 0
twice_sign true n = omega (arith, pow-suc 2 n)
twice_sign false n = refl

axis_cons : (k e : ℕ) (a : Bool) (xs : List Bool) → 1 ≤ length xs → Axis k xs e → Axis (suc k) (a ∷ xs) (weight a + 2 * e)
unfolding num
axis_cons k e a xs h ih = rw (sign_cons a xs h, twice_sign (sign_bit xs) (length xs)) (omega (arith, pow-suc 2 k))

axis_value : (k e : ℕ) (xs : List Bool) → 1 ≤ length xs → Axis k xs e → twos_complement (true ∷ xs) ≡ coordinate_of (sign_weight k) e
unfolding num weight twos_complement
axis_value k e xs h ih = go (sign_bit xs) refl ih
  where
    go : (s : Bool) → sign_bit xs ≡ s → 2 * 2 ^ k + num xs ≡ e + cond s (2 ^ length xs) 0 → twos_complement (true ∷ xs) ≡ coordinate_of (sign_weight k) e
    go false p q =
        let v : 1 + 2 * num xs ≡ 2 * e + 1 - sign_weight k = omega arith in
        rw (sign_cons true xs h, p, le-ltb (2 * e + 1) (sign_weight k) (omega arith)) (ap pos v)
    go true p q =
        let v : 2 ^ suc (length xs) - (1 + 2 * num xs) ≡ suc (sign_weight k - suc (2 * e + 1)) = omega (arith, pow-suc 2 (length xs), num_lt xs) in
        rw (sign_cons true xs h, p, lt-ltb (2 * e + 1) (sign_weight k) (omega (arith, num_lt xs)), v)

-- ---- two bits more

widened_step : (k l : ℕ) → 1 ≤ k → widened_label (suc k) l ≡ 4 * widened_label k (l / 2 / 2) + l % 4
unfolding widened_label top_five
widened_step zero l h = absurd (omega arith)
widened_step (suc j) l h =
    let n : 2 + 2 * j ≡ 2 * suc j = omega arith in
    let m : 2 * suc j + 2 ≡ 2 * suc (suc j) = omega arith in
    let u : 2 * suc (suc j) ≡ suc (suc (2 * suc j)) = omega arith in
    let f : l / 2 / 2 ≡ l / 4 = omega arith in
    let q : l / 2 / 2 / 2 ^ (2 * j) ≡ l / 2 ^ (2 * suc j) = ap (λ (x : ℕ). x / 2 ^ (2 * j)) f ∙ rw n at (shr-shr l 2 (2 * j)) in
    let r : l % 2 ^ (2 * suc (suc j)) ≡ l / 2 / 2 % 2 ^ (2 * suc j) * 4 + l % 4 = rw (f, ← m) (mod-pow-add l (2 * suc j) 2) in
    let t = top_four (l / 2 ^ (2 * suc j)) in
    let s : t * 2 ^ (2 * suc (suc j)) ≡ 4 * (t * 2 ^ (2 * suc j)) = rw u (omega (arith, twice t (suc (2 * suc j)), twice t (2 * suc j))) in
    rw (q, r, s) (omega arith)

pushed_bits : (n w l : ℕ) → bits (suc (suc n)) (4 * w + l % 4) ≡ odd l ∷ odd (l / 2) ∷ bits n w
unfolding bits odd
pushed_bits n w l =
    let f : (4 * w + l % 4) / 2 / 2 ≡ w = omega arith in
    let g : (4 * w + l % 4) % 2 ≡ l % 2 = omega arith in
    let a : (4 * w + l % 4) / 2 ≡ 2 * w + l % 4 / 2 = omega arith in
    let b : l / 2 ≡ 2 * (l / 4) + l % 4 / 2 = omega arith in
    let h : (4 * w + l % 4) / 2 % 2 ≡ l / 2 % 2 = rw (a, b) (omega arith) in
    rw (f, g, h)

evens_cons : (b : Bool) (l : List Bool) → evens (b ∷ l) ≡ b ∷ odds l
evens_cons b [] = refl
evens_cons b (c ∷ l) = refl

-- ---- every label

-- the coordinates of a label of b bits, by its word of n bits
pub record Worded (b l n : ℕ) : Type 0 where
  pub x : Axis (plain_pairs b) (coords (bits b l)).xs (num (odds (bits n (label_word b l))))
  pub y : Axis (plain_pairs b) (coords (bits b l)).ys (num (evens (bits n (label_word b l))))

module _ (b l : ℕ) where
  x_left : ℕ
  x_left = 2 * 2 ^ plain_pairs b + num (coords (bits b l)).xs

  x_right : ℕ
  x_right = num (odds (bits (2 * plain_pairs b + 4) (label_word b l))) + sign (coords (bits b l)).xs

  y_left : ℕ
  y_left = 2 * 2 ^ plain_pairs b + num (coords (bits b l)).ys

  y_right : ℕ
  y_right = num (evens (bits (2 * plain_pairs b + 4) (label_word b l))) + sign (coords (bits b l)).ys

few : (b : ℕ) → first (λ l. not (eqb (x_left b l) (x_right b l))) (2 ^ b) ≡ None → first (λ l. not (eqb (y_left b l) (y_right b l))) (2 ^ b) ≡ None
    → (l n : ℕ) → l < 2 ^ b → n ≡ 2 * plain_pairs b + 4 → Worded b l n
unfolding x_left x_right y_left y_right
few b tx ty l n h e = rw e (record { x = rule (x_left b) (x_right b) (2 ^ b) tx l h; y = rule (y_left b) (y_right b) (2 ^ b) ty l h })

word_more : (b l : ℕ) → 4 ≤ b → label_word (suc (suc b)) l ≡ 4 * label_word b (l / 2 / 2) + l % 4
word_more b l h =
    let e : plain_pairs (suc (suc b)) ≡ suc (plain_pairs b) = omega arith in
    rw (e, le-ltb (suc (suc b)) 2 (omega arith), le-ltb b 2 (omega arith)) (widened_step (plain_pairs b) l (omega arith))

word_odds : (n w l : ℕ) → num (odds (bits (suc (suc n)) (4 * w + l % 4))) ≡ weight (odd (l / 2)) + 2 * num (odds (bits n w))
unfolding num
word_odds n w l = ap (λ (v : List Bool). num (odds v)) (pushed_bits n w l) ∙ ap num (evens_cons (odd (l / 2)) (bits n w))

word_evens : (n w l : ℕ) → num (evens (bits (suc (suc n)) (4 * w + l % 4))) ≡ weight (odd l) + 2 * num (evens (bits n w))
unfolding num
word_evens n w l = ap (λ (v : List Bool). num (evens v)) (pushed_bits n w l)

some_bits : (b l : ℕ) → 1 ≤ b → (1 ≤ length (coords (bits b l)).xs) × (1 ≤ length (coords (bits b l)).ys)
some_bits b l h =
    let k = rw (length_bits b l) at (coords_length (bits b l)) in
    let p = axis_bits_pos b h in
    (omega arith, omega arith)

-- a label of at least six bits, by the one without its two lowest
more : (b l n : ℕ) → Worded (suc (suc (suc (suc b)))) (l / 2 / 2) n → Worded (suc (suc (suc (suc (suc (suc b)))))) l (suc (suc n))
unfolding bits
more b l n r =
    record {
      x = rw (ap (λ (v : ℕ). num (odds (bits (suc (suc n)) v))) word ∙ word_odds n w l, e)
          (axis_cons (plain_pairs c) (num (odds (bits n w))) (odd (l / 2)) (coords (bits c (l / 2 / 2))).xs k.0 r.x);
      y = rw (ap (λ (v : ℕ). num (evens (bits (suc (suc n)) v))) word ∙ word_evens n w l, e)
          (axis_cons (plain_pairs c) (num (evens (bits n w))) (odd l) (coords (bits c (l / 2 / 2))).ys k.1 r.y);
    }
  where
    c : ℕ
    c = suc (suc (suc (suc b)))

    w : ℕ
    w = label_word c (l / 2 / 2)

    k : (1 ≤ length (coords (bits c (l / 2 / 2))).xs) × (1 ≤ length (coords (bits c (l / 2 / 2))).ys)
    k = some_bits c (l / 2 / 2) (omega arith)

    e : plain_pairs (suc (suc c)) ≡ suc (plain_pairs c)
    e = omega arith

    word : label_word (suc (suc c)) l ≡ 4 * w + l % 4
    word = word_more c l (omega arith)

worded : (b l n : ℕ) → 1 ≤ b → l < 2 ^ b → n ≡ 2 * plain_pairs b + 4 → Worded b l n
unfolding x_left x_right y_left y_right first weight num odd bits top_five top_four widened_label three five
worded zero l n k h e = absurd (omega arith)
worded (suc zero) l n k h e = few 1 refl refl l n h e
worded (suc (suc zero)) l n k h e = few 2 refl refl l n h e
worded (suc (suc (suc zero))) l n k h e = few 3 refl refl l n h e
worded (suc (suc (suc (suc zero)))) l n k h e = few 4 refl refl l n h e
worded (suc (suc (suc (suc (suc zero))))) l n k h e = few 5 refl refl l n h e
worded (suc (suc (suc (suc (suc (suc b)))))) l zero k h e = absurd (omega arith)
worded (suc (suc (suc (suc (suc (suc b)))))) l (suc zero) k h e = absurd (omega arith)
worded (suc (suc (suc (suc (suc (suc b)))))) l (suc (suc n)) k h e =
    let i : 2 ^ suc (suc (suc (suc (suc (suc b))))) ≡ 4 * 2 ^ suc (suc (suc (suc b))) = omega (arith, pow-suc 2 (suc (suc (suc (suc (suc b))))), pow-suc 2 (suc (suc (suc (suc b))))) in
    more b l n (worded (suc (suc (suc (suc b)))) (l / 2 / 2) n (omega arith) (omega arith) (omega arith))

-- The point of a label has the coordinates that its word gives.
pub point_word : (b l : ℕ) → 1 ≤ b → b ≤ 15 → l < 2 ^ b
    → point_of b (bits b l) ≡ point (coordinate_of (sign_weight (plain_pairs b)) (x_bits (label_word b l))) (coordinate_of (sign_weight (plain_pairs b)) (y_bits (label_word b l)))
point_word b l h k s =
    let r = worded b l (2 * plain_pairs b + 4) h s refl in
    let some = some_bits b l h in
    let own = own_bits_lem (plain_pairs b) (label_word b l) (omega arith) (word_lt b l h s) in
    let x = axis_value (plain_pairs b) (num (odds (bits (2 * plain_pairs b + 4) (label_word b l)))) (coords (bits b l)).xs some.0 r.x in
    let y = axis_value (plain_pairs b) (num (evens (bits (2 * plain_pairs b + 4) (label_word b l)))) (coords (bits b l)).ys some.1 r.y in
    let p : point_of b (bits b l) ≡ point (twos_complement (true ∷ (coords (bits b l)).xs)) (twos_complement (true ∷ (coords (bits b l)).ys)) =
    rw (length_bits b l) at (point_coords (bits b l)) in
    p ∙ ap₂ point (x ∙ ap (coordinate_of (sign_weight (plain_pairs b))) (sym own.0)) (y ∙ ap (coordinate_of (sign_weight (plain_pairs b))) (sym own.1))

-- both parts of a label's word, from one number
pub record Parts (b l both : ℕ) : Type 0 where
  pub x : both / 65536 ≡ x_bits (label_word b l)
  pub y : both % 65536 ≡ y_bits (label_word b l)
  pub x_small : both / 65536 < 256
  pub y_small : both % 65536 < 256

pub parts_law : (b l both : ℕ) → 1 ≤ b → b ≤ 15 → l < 2 ^ b → both ≡ 65536 * x_bits (label_word b l) + y_bits (label_word b l) → Parts b l both
parts_law b l both h k s e =
    let u = bits_lt (plain_pairs b) (label_word b l) (omega arith) (word_lt b l h s) in
    let m = half_le (plain_pairs b) (omega arith) in
    record { x = omega arith; y = omega arith; x_small = omega arith; y_small = omega arith }
