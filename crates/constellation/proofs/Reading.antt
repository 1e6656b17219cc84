-- Reading a point: the bits of its coordinates leave one label, and the point is its own if the word and the coordinates are in the grid.
use Rattle.std.specs.Prelude.{Option, None, Some}
use Rattle.std.specs.Option.{option_map}
use Prim.Native.Nat.{ℕ, zero, suc, ◌+◌, ◌*◌, ◌%◌, ◌^◌, ◌≤◌, ◌<◌}
use mathlib.Core.Bool.{Bool, true, false, cond, false≢true}
use mathlib.Core.List.{List, [], ◌∷◌}
use mathlib.Core.Path.{◌≡◌, refl, sym, ap, ap₂, ◌∙◌}
use native.Mathlib.Nat.{pow-suc, mod-eq_of_lt}
use native.Mathlib.Omega.{arith}
use borrow.Author.Tests.{ltb-true}
use lib.Dec.{ltb}
use lib.IntN.{ℤ}
use lib.Pow.{pow_pos}
use Rattle.g9932.specs.Bits.{num, bits}
use Rattle.g9932.specs.Sizes.{Point, point}
use Rattle.g9932.specs.Points.{point_of, label_of, is_label, label_bits}
use Rattle.g9932.proofs.Words.{bits_num, num_bits, num_lt, length_bits, weight_le}
use Rattle.g9932.proofs.Labels.{label_point, label_back}
use Rattle.constellation.specs.Widened.{plain_pairs, mapping_label, label_word, x_bits, y_bits, interleaved, sign_weight, coordinate_of}
use Rattle.constellation.specs.Reading.{NarrowedWord, own_label, top_six, in_grid}
use Rattle.constellation.specs.DemapByLayout.{BitsOf}
use Rattle.constellation.proofs.Grid.{grid_word, word_grid}
use Rattle.constellation.proofs.Halves.{interleaved_apart, deinterleave_interleaved}
use Rattle.constellation.proofs.Mapping.{point_word}
use Rattle.constellation.proofs.Sizes.{label_lt, word_lt, word_16, bits_lt, half_le}

-- ---- the word of two coordinates' bits

interleaved_lt : (m : ℕ) (xs ys : List Bool) → num xs < 2 ^ m → num ys < 2 ^ m → num (interleaved xs ys) < 2 ^ (2 * m)
unfolding num
interleaved_lt m [] ys hx hy = pow_pos (2 * m)
interleaved_lt m (x ∷ xs) [] hx hy = pow_pos (2 * m)
interleaved_lt zero (x ∷ xs) (y ∷ ys) hx hy =
    let r = interleaved_lt zero xs ys (omega arith) (omega arith) in
    omega arith
interleaved_lt (suc m) (x ∷ xs) (y ∷ ys) hx hy =
    let e : 2 * suc m ≡ suc (suc (2 * m)) = omega arith in
    let p = pow-suc 2 m in
    let r = interleaved_lt m xs ys (omega arith) (omega arith) in
    rw e (omega (arith, pow-suc 2 (suc (2 * m)), pow-suc 2 (2 * m), weight_le x, weight_le y))

pub interleaved_word : (k x y : ℕ) → k ≤ 6 → x < sign_weight k → y < sign_weight k → num (interleaved (bits 8 x) (bits 8 y)) < 2 ^ (4 + 2 * k)
interleaved_word k x y h hx hy =
    let e : 2 * suc (suc k) ≡ 4 + 2 * k = omega arith in
    let p : sign_weight k ≡ 2 ^ suc (suc k) = omega (arith, pow-suc 2 (suc k), pow-suc 2 k) in
    let l = half_le k h in
    let nx : num (bits 8 x) ≡ x = num_bits 8 x ∙ mod-eq_of_lt (omega arith) in
    let ny : num (bits 8 y) ≡ y = num_bits 8 y ∙ mod-eq_of_lt (omega arith) in
    rw e at (interleaved_lt (suc (suc k)) (bits 8 x) (bits 8 y) (omega arith) (omega arith))

-- ---- the label back from its mapping label

own_label_lem : (b m : ℕ) → 1 ≤ b → m < 2 ^ b → own_label b (mapping_label b m) ≡ m
own_label_lem b m h s = go (ltb b 2) refl
  where
    go : (c : Bool) → ltb b 2 ≡ c → cond c (cond c (3 * m) m % 2) (cond c (3 * m) m) ≡ m
    go true e =
        let one : b ≡ 1 = omega (arith, ltb-true b 2 e) in
        let small : m < 2 ^ 1 = rw one at s in
        omega arith
    go false e = refl

-- ---- the label of a point

module _ (b : ℕ) (x y : ℤ) (low : 1 ≤ b) (high : b ≤ 15) where
  abbrev h : ℕ
  h = sign_weight (plain_pairs b)

  abbrev sought : Option (List Bool)
  sought = label_of b (point x y)

  few : plain_pairs b ≤ 6
  few = omega arith

  -- a label that it has, as a number, and its word
  number : ℕ
  number = num (label_bits sought)

  word : ℕ
  word = label_word b number

  small : is_label sought ≡ true → number < 2 ^ b
  unfolding number
  small e = rw (label_back b (point x y) e).0 at (num_lt (label_bits sought))

  at_word : is_label sought ≡ true → point x y ≡ point (coordinate_of h (x_bits word)) (coordinate_of h (y_bits word))
  unfolding number word
  at_word e =
      let r = label_back b (point x y) e in
      let same : bits b number ≡ label_bits sought = rw r.0 at (bits_num (label_bits sought)) in
      sym r.1 ∙ ap (point_of b) (sym same) ∙ point_word b number low high (small e)

  within : is_label sought ≡ true → (x_bits word < h) × (y_bits word < h)
  unfolding word
  within e = bits_lt (plain_pairs b) (label_word b number) few (word_lt b number low (small e))

  none : (is_label sought ≡ true → ⊥) → None ≡ option_map num sought
  none not = go sought refl
    where
      go : (o : Option (List Bool)) → sought ≡ o → None ≡ option_map num o
      go None e = refl
      go (Some v) e = absurd (not (ap is_label e))

  -- a point that is not that of its own bits
  pub off_point : {ex ey : ℕ} → BitsOf h x ex → BitsOf h y ey → (point (coordinate_of h ex) (coordinate_of h ey) ≡ point x y → ⊥) → None ≡ option_map num sought
  off_point bx by off =
      none
      (λ e.
      let p = at_word e in
      let fx = bx.own (x_bits word) (within e).0 (ap (λ (q : Point). q.px) p) in
      let fy = by.own (y_bits word) (within e).1 (ap (λ (q : Point). q.py) p) in
      off (ap₂ (λ (i j : ℕ). point (coordinate_of h i) (coordinate_of h j)) fx fy ∙ sym p))

  module _ {ex ey w : ℕ} (bx : BitsOf h x ex) (by : BitsOf h y ey) (at : point (coordinate_of h ex) (coordinate_of h ey) ≡ point x y)
      (is : w ≡ num (interleaved (bits 8 ex) (bits 8 ey))) where
    -- the word of a label that it has
    own_word : is_label sought ≡ true → w ≡ word
    unfolding word
    own_word e =
        let p = at_word e in
        let fx : ex ≡ x_bits word = bx.own (x_bits word) (within e).0 (ap (λ (q : Point). q.px) p) in
        let fy : ey ≡ y_bits word = by.own (y_bits word) (within e).1 (ap (λ (q : Point). q.py) p) in
        is ∙ rw (fx, fy) (interleaved_apart word (word_16 (plain_pairs b) word few (word_lt b number low (small e))))

    pub off_grid : false ≡ in_grid b (top_six (plain_pairs b) w) → None ≡ option_map num sought
    unfolding word
    off_grid off =
        none (λ e. false≢true (off ∙ ap (λ (i : ℕ). in_grid b (top_six (plain_pairs b) i)) (own_word e) ∙ word_grid b number (small e)))

    -- the label left, where the word is in the grid
    pub on_grid : true ≡ in_grid b (top_six (plain_pairs b) w) → (n : ℕ) → NarrowedWord (plain_pairs b) w n → Some (own_label b n) ≡ option_map num sought
    on_grid on n back =
        let g = grid_word b w (sym on) in
        let m = g.0 in
        let own : own_label b n ≡ m = ap (own_label b) (back (mapping_label b m) (label_lt b m low g.1) (sym g.2)) ∙ own_label_lem b m low g.1 in
        let l = half_le (plain_pairs b) few in
        let parts = deinterleave_interleaved ex ey (omega (arith, bx.small)) (omega (arith, by.small)) in
        let fx : x_bits (label_word b m) ≡ ex = ap x_bits (g.2 ∙ is) ∙ parts.0 in
        let fy : y_bits (label_word b m) ≡ ey = ap y_bits (g.2 ∙ is) ∙ parts.1 in
        let q : point_of b (bits b m) ≡ point x y = point_word b m low high g.1 ∙ ap₂ (λ (i j : ℕ). point (coordinate_of h i) (coordinate_of h j)) fx fy ∙ at in
        let found : sought ≡ Some (bits b m) = rw q at (label_point b (bits b m) (length_bits b m)) in
        rw (own, found, num_bits, mod-eq_of_lt g.1) refl
