-- One pair read: what the code works out in numbers is the word that the labels imply and its frame bits.
use mathlib.Core.Path.{◌≡◌, refl, sym, ap, ◌∙◌}
use mathlib.Core.Bool.{Bool, true, false, not, ◌&&◌, true≢false}
use mathlib.Core.List.{List, ◌∷◌, ◌++◌}
use Prim.Native.Nat.{ℕ, zero, suc, ◌+◌, ◌-◌, ◌*◌, ◌/◌, ◌%◌, ◌^◌, ◌≤◌, ◌<◌}
use native.Mathlib.Nat.{lt_of_lt_of_le, mul_comm, mul-le-mul_left, mod-eq_of_lt}
use native.Mathlib.Omega.{arith}
use lib.ListN.{length, take, drop, length-append, length-drop}
use lib.Pow.{pow_mono}
use lib.Seq.{take_at, drop_at}
use Rattle.g9932.specs.Bits.{◌⊕◌, bit, bits, num, odd, weight}
use Rattle.g9932.specs.Order.{pair}
use Rattle.g9932.specs.Trellis.{Word, taken, same, zero_state, implied, decoded_word, obeys_code, taken_bits, next_state, next_of}
use Rattle.g9932.specs.declared.TrellisState.{TrellisState}
use Rattle.g9932.proofs.Identities.{bits_agree, false_xor}
use Rattle.g9932.proofs.Words.{num_append, num_bits, num_lt, num_drop, length_bits, bits_num}
use Rattle.decoder.specs.Reading.{decoded_of, word_by, taken_number, decoded_in}
use Rattle.decoder.specs.declared.PairWord.{PairWord}
use Rattle.trellis.proofs.Numbers.{lowest, bit_num}

-- a pair is checked and breaks the code, or it goes on
pub both_true : (k o : Bool) → k && not o ≡ true → (k ≡ true) × (o ≡ false)
both_true true false e = (refl, refl)
both_true true true e = absurd (true≢false (sym e))
both_true false o e = absurd (true≢false (sym e))

pub not_both : (k o : Bool) → k && not o ≡ false → k ≡ true → o ≡ true
not_both true true e f = refl
not_both true false e f = absurd (true≢false e)
not_both false o e f = absurd (true≢false (sym f))

-- what the code has of a word
pub record IsDecoded (u : Word) (r : PairWord) : Type 0 where
  pub u0 : r.u0 ≡ u.u0
  pub u1 : r.u1 ≡ u.u1
  pub u2 : r.u2 ≡ u.u2
  pub u3 : r.u3 ≡ u.u3
  pub high : r.high ≡ num u.high

-- the word that labels of x and y bits imply
module _ (x y v w : ℕ) (hv : v < 2 ^ x) (hw : w < 2 ^ y) where
  v_is_lem : num (bits x v) ≡ v
  v_is_lem = num_bits x v ∙ mod-eq_of_lt hv

  w_is_lem : num (bits y w) ≡ w
  w_is_lem = num_bits y w ∙ mod-eq_of_lt hw

  cut_v : take x (bits x v ++ bits y w) ≡ bits x v
  cut_v = take_at (bits x v) (bits y w) x (length_bits x v)

  cut_w : drop x (bits x v ++ bits y w) ≡ bits y w
  cut_w = drop_at (bits x v) (bits y w) x (length_bits x v)

  high_length : length (drop 2 (bits x v)) ≡ x - 2
  high_length = simp length-drop (rw (length_bits x v))

  implied_number : IsDecoded (implied (bits x v) (bits y w)) (decoded_of v w x)
  unfolding decoded_of
  implied_number =
      let v0 : bit (bits x v) 0 ≡ odd v = lowest (bits x v) ∙ ap odd v_is_lem in
      let v1 : bit (bits x v) 1 ≡ odd (v / 2) = bit_num (bits x v) 1 ∙ ap (λ (n : ℕ). odd (n / 2)) v_is_lem in
      let w0 : bit (bits y w) 0 ≡ odd w = lowest (bits y w) ∙ ap odd w_is_lem in
      let w1 : bit (bits y w) 1 ≡ odd (w / 2) = bit_num (bits y w) 1 ∙ ap (λ (n : ℕ). odd (n / 2)) w_is_lem in
      let n : num (drop 2 (bits x v) ++ drop 2 (bits y w)) ≡ v / 4 + w / 4 * 2 ^ (x - 2) =
      num_append (drop 2 (bits x v)) (drop 2 (bits y w))
      ∙ rw (high_length, num_drop, num_drop, v_is_lem, w_is_lem) (ap (λ (m : ℕ). v / 4 + m) (mul_comm (2 ^ (x - 2)) (w / 4))) in
      record {
        u0 = rw (v0, v1, w0, w1);
        u1 = rw (v0, v1);
        u2 = rw (v0, w0);
        u3 = rw v0;
        high = sym n;
      }

decoded_implied : (x y v w : ℕ) → 2 ≤ x → v < 2 ^ x → w < 2 ^ y → decoded_word x (bits x v ++ bits y w) ≡ implied (bits x v) (bits y w)
unfolding decoded_word
decoded_implied zero y v w h hv hw = absurd (omega arith)
decoded_implied (suc x) y v w h hv hw = rw (cut_v (suc x) y v w hv hw, cut_w (suc x) y v w hv hw)

join3 : (a b c h : ℕ) → a + 2 * (b + 2 * (c + 2 * h)) ≡ a + 2 * b + 4 * (c + 2 * h)
join3 a b c h = omega arith

-- the frame bits as a number
taken_number_lem : (forced : Bool) (u : Word) (x : ℕ) (r : PairWord) → 2 ≤ x → IsDecoded u r → taken_number forced r ≡ num (taken_bits forced x u)
unfolding taken_bits taken_number num
taken_number_lem forced u zero r h i = absurd (omega arith)
taken_number_lem true u (suc x) r h i = rw (i.u3, i.high)
taken_number_lem false u (suc x) r h i = rw (i.u1, i.u2, i.u3, i.high) (sym (join3 (weight u.u1) (weight u.u2) (weight u.u3) (num u.high)))

taken_length : (forced : Bool) (u : Word) (x y : ℕ) → 2 ≤ x → 2 ≤ y → length u.high ≡ x + y - 4 → length (taken_bits forced x u) ≡ taken forced (pair x y)
unfolding taken_bits
taken_length forced u zero y h k e = absurd (omega arith)
taken_length true u (suc x) y h k e = omega arith
taken_length false u (suc x) y h k e = omega arith

obeys_by : (forced : Bool) (s : TrellisState) (u : Word) (r : PairWord) → IsDecoded u r → obeys_code forced s (word_by r) ≡ obeys_code forced s u
obeys_by true s u r i = rw (i.u0, i.u1, i.u2)
obeys_by false s u r i = rw i.u0

-- ---- as the code has it

pub record PairDecoded (forced : Bool) (s : TrellisState) (x y v w : ℕ) (r : PairWord) : Type 0 where
  pub obeys : obeys_code forced s (word_by r) ≡ obeys_code forced s (decoded_in (pair x y) v w)
  pub next : next_state s r.u1 r.u2 ≡ next_of s (decoded_in (pair x y) v w)
  pub takes : bits (taken forced (pair x y)) (taken_number forced r) ≡ taken_bits forced x (decoded_in (pair x y) v w)
  pub small : taken_number forced r < 2 ^ taken forced (pair x y)

module _ (x y v w : ℕ) (hx : 2 ≤ x) (hy : 2 ≤ y) (hv : v < 2 ^ x) (hw : w < 2 ^ y) where
  high_is : length (decoded_in (pair x y) v w).high ≡ x + y - 4
  high_is =
      rw (decoded_implied x y v w hx hv hw)
      (length-append (drop 2 (bits x v)) (drop 2 (bits y w))
      ∙ omega (arith, length-drop 2 (bits x v), length-drop 2 (bits y w), length_bits x v, length_bits y w))

  -- how many frame bits a pair gives
  pub length_takes : (forced : Bool) → length (taken_bits forced x (decoded_in (pair x y) v w)) ≡ taken forced (pair x y)
  length_takes forced = taken_length forced (decoded_in (pair x y) v w) x y hx hy high_is

  module _ (r : PairWord) (hr : r ≡ decoded_of v w x) where
    is_decoded : IsDecoded (decoded_in (pair x y) v w) r
    is_decoded = rw (hr, decoded_implied x y v w hx hv hw) (implied_number x y v w hv hw)

    pub decoded_high : x ≤ 15 → y ≤ 15 → r.high < 67108864
    decoded_high kx ky = rw is_decoded.high (lt_of_lt_of_le (num_lt (decoded_in (pair x y) v w).high) (rw high_is (pow_mono {j = 26} (omega arith))))

    pub decoded_pair : (forced : Bool) (s : TrellisState) → PairDecoded forced s x y v w r
    decoded_pair forced s =
        let u : Word = decoded_in (pair x y) v w in
        let n : taken_number forced r ≡ num (taken_bits forced x u) = taken_number_lem forced u x r hx is_decoded in
        let m : length (taken_bits forced x u) ≡ taken forced (pair x y) = length_takes forced in
        record {
          obeys = obeys_by forced s u r is_decoded;
          next = rw (is_decoded.u1, is_decoded.u2);
          takes = rw (n, ← m) (bits_num (taken_bits forced x u));
          small = rw (n, ← m) (num_lt (taken_bits forced x u));
        }

-- the number that the code puts u4 upward together to fits
pub decoded_fits : (w x : ℕ) → x ≤ 15 → w < 32768 → w / 4 * 2 ^ (x - 2) < 67108864
decoded_fits w x h k =
    let a : w / 4 * 2 ^ (x - 2) ≤ w / 4 * 8192 = mul-le-mul_left (w / 4) (pow_mono {j = 13} (omega arith)) in
    omega arith

-- and nothing of it is shifted out
pub decoded_shift : (w x : ℕ) → x ≤ 15 → w < 32768 → w / 4 * 2 ^ (x - 2) % 4294967296 ≡ w / 4 * 2 ^ (x - 2)
decoded_shift w x h k = mod-eq_of_lt (omega (arith, decoded_fits w x h k))

-- ---- a first pair with x = 0: the labels d are w alone

same_false : (a b : Bool) → same (false ⊕ false ⊕ a ⊕ b) false ≡ not (a ⊕ b)
same_false = bits_agree 2 (λ a b. same (false ⊕ false ⊕ a ⊕ b) false) (λ a b. not (a ⊕ b)) refl

pub record FirstDecoded (y w : ℕ) : Type 0 where
  pub obeys : not (odd w ⊕ odd (w / 2)) ≡ obeys_code false zero_state (decoded_in (pair 0 y) 0 w)
  pub next : next_state zero_state false (odd w) ≡ next_of zero_state (decoded_in (pair 0 y) 0 w)
  pub takes : bits (y - 1) (weight (odd w) + 2 * (w / 4)) ≡ taken_bits false 0 (decoded_in (pair 0 y) 0 w)
  pub small : weight (odd w) + 2 * (w / 4) < 2 ^ (y - 1)

first_decoded : (y : ℕ) (f : List Bool) → 2 ≤ y → length f ≡ y
    → (not (odd (num f) ⊕ odd (num f / 2)) ≡ obeys_code false zero_state (decoded_word 0 f))
    × (next_state zero_state false (odd (num f)) ≡ next_of zero_state (decoded_word 0 f))
    × (bits (y - 1) (weight (odd (num f)) + 2 * (num f / 4)) ≡ taken_bits false 0 (decoded_word 0 f))
    × (weight (odd (num f)) + 2 * (num f / 4) < 2 ^ (y - 1))
unfolding decoded_word taken_bits num
first_decoded y f h e =
    let w0 : bit f 0 ≡ odd (num f) = lowest f in
    let w1 : bit f 1 ≡ odd (num f / 2) = bit_num f 1 in
    let n : weight (odd (num f)) + 2 * (num f / 4) ≡ num ((false ⊕ bit f 0) ∷ drop 2 f) = rw (false_xor (bit f 0), w0, num_drop 2 f) in
    let m : length ((false ⊕ bit f 0) ∷ drop 2 f) ≡ y - 1 = let k = length-drop 2 f in omega arith in
    (rw (← w0, ← w1) (sym (same_false (bit f 0) (bit f 1))), rw (false_xor (bit f 0), w0), rw (n, ← m) (bits_num ((false ⊕ bit f 0) ∷ drop 2 f)), rw (n, ← m) (num_lt ((false ⊕ bit f 0) ∷ drop 2 f)))

module _ (y w : ℕ) (h : 2 ≤ y) (hw : w < 2 ^ y) where
  pub decoded_first : FirstDecoded y w
  unfolding bits
  decoded_first =
      let p = rw (w_is_lem 0 y 0 w (omega arith) hw) at (first_decoded y (bits y w) h (length_bits y w)) in
      record { obeys = p.0; next = p.1; takes = p.2; small = p.3 }

  pub first_takes : length (taken_bits false 0 (decoded_in (pair 0 y) 0 w)) ≡ taken false (pair 0 y)
  unfolding decoded_word taken_bits bits
  first_takes = omega (arith, length-drop 2 (bits y w), length_bits y w)
