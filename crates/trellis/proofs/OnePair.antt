-- One pair: what the code works out in numbers is the pair's word and its sent bits.
use mathlib.Core.Path.{◌≡◌, refl, sym, ap, ◌∙◌}
use mathlib.Core.Bool.{Bool, true, false}
use mathlib.Core.List.{List, ◌∷◌, ◌++◌}
use Prim.Native.Nat.{ℕ, zero, suc, ◌+◌, ◌-◌, ◌*◌, ◌/◌, ◌%◌, ◌^◌, ◌≤◌, ◌<◌}
use native.Mathlib.Nat.{lt_of_lt_of_le, lt_of_le_of_lt, div-one, div-le_self}
use native.Mathlib.Omega.{arith}
use lib.ListN.{length, take, drop, length-drop}
use lib.Pow.{pow_mono}
use lib.Seq.{length-take-le}
use Rattle.g9932.specs.Bits.{bit, bits, num, odd}
use Rattle.g9932.specs.Order.{pair}
use Rattle.g9932.specs.Sizes.{unpack}
use Rattle.g9932.specs.Trellis.{Word, taken, word_of, low_bits, low_bits_of, sent_bits, next_state, next_of}
use Rattle.g9932.specs.declared.LowBits.{LowBits}
use Rattle.g9932.specs.declared.TrellisState.{TrellisState}
use Rattle.g9932.proofs.Formed.{fit_both}
use Rattle.g9932.proofs.OnePair.{highs, Valid, word_valid}
use Rattle.g9932.proofs.Packed.{length_unpack}
use Rattle.g9932.proofs.Words.{num_lt, num_drop, num_take_lt, bits_num}
use Rattle.trellis.specs.Coding.{label_number}
use Rattle.trellis.proofs.Numbers.{bit_num, Inputs, inputs_of, IsInputs, inputs_word, v_number, w_number}

word_u0 : (forced : Bool) (s : TrellisState) (x : ℕ) (f : List Bool) → (word_of forced s x f).u0 ≡ s.s0
unfolding word_of
word_u0 forced s zero f = refl
word_u0 true s (suc x) f = refl
word_u0 false s (suc x) f = refl

inputs_at : (forced : Bool) (s : TrellisState) (x : ℕ) (f : List Bool) → 2 ≤ x → IsInputs (word_of forced s x f) (inputs_of forced s (num f))
inputs_at forced s zero f h = absurd (omega arith)
inputs_at forced s (suc x) f h = inputs_word forced s x f

high_count : (x y : ℕ) → 2 ≤ x → highs x y ≡ x + y - 4
high_count zero y h = absurd (omega arith)
high_count (suc x) y h = refl

pub record PairCoded (forced : Bool) (s : TrellisState) (x y : ℕ) (f : List Bool) (i : Inputs) (v w : ℕ) : Type 0 where
  pub next : next_state s i.u1 i.u2 ≡ next_of s (word_of forced s x f)
  pub sends : bits x v ++ bits y w ≡ sent_bits x (word_of forced s x f)
  pub v_small : v < 2 ^ x
  pub w_small : w < 2 ^ y

sent_parts : (u : Word) (x : ℕ) → 2 ≤ x
    → ((low_bits_of u).v0 ∷ (low_bits_of u).v1 ∷ take (x - 2) u.high) ++ ((low_bits_of u).w0 ∷ (low_bits_of u).w1 ∷ drop (x - 2) u.high) ≡ sent_bits x u
unfolding sent_bits
sent_parts u zero h = absurd (omega arith)
sent_parts u (suc a) h = refl

-- a number that is that of a list has its bits
labels : (n v : ℕ) (l : List Bool) → v ≡ num l → length l ≡ n → (bits n v ≡ l) × (v < 2 ^ n)
labels n v l e m = (rw (e, ← m) (bits_num l), rw (e, ← m) (num_lt l))

module _ (forced : Bool) (s : TrellisState) (x y : ℕ) (f : List Bool) (hx : 2 ≤ x) (hy : 2 ≤ y) (hf : length f ≡ taken forced (pair x y)) where
  valid : Valid forced s x y (word_of forced s x f)
  valid = word_valid s f (fit_both forced x y hx hy) hf

  high_small : x ≤ 15 → y ≤ 15 → (i : Inputs) → i ≡ inputs_of forced s (num f) → i.high < 67108864
  high_small kx ky i hi =
      let j : IsInputs (word_of forced s x f) i = rw hi (inputs_at forced s x f hx) in
      let e : length (word_of forced s x f).high ≡ x + y - 4 = valid.sized ∙ high_count x y hx in
      rw j.high (lt_of_lt_of_le (num_lt (word_of forced s x f).high) (pow_mono {j = 26} (omega arith)))

  pair_coded : (i : Inputs) (low : LowBits) (v w : ℕ) → i ≡ inputs_of forced s (num f) → low ≡ low_bits s.s0 i.u1 i.u2 i.u3
      → v ≡ label_number low.v0 low.v1 (i.high % 2 ^ (x - 2)) → w ≡ label_number low.w0 low.w1 (i.high / 2 ^ (x - 2)) → PairCoded forced s x y f i v w
  pair_coded i low v w hi hl hv hw =
      let u : Word = word_of forced s x f in
      let j : IsInputs u i = rw hi (inputs_at forced s x f hx) in
      let l : low ≡ low_bits_of u = hl ∙ rw (j.u1, j.u2, j.u3, word_u0 forced s x f) in
      let k : length u.high ≡ x + y - 4 = valid.sized ∙ high_count x y hx in
      let n = length-take-le (x - 2) u.high (omega arith) in
      let m = length-drop (x - 2) u.high in
      let a = labels x v ((low_bits_of u).v0 ∷ (low_bits_of u).v1 ∷ take (x - 2) u.high) (hv ∙ rw (l, j.high) (sym (v_number u x))) (omega arith) in
      let b = labels y w ((low_bits_of u).w0 ∷ (low_bits_of u).w1 ∷ drop (x - 2) u.high) (hw ∙ rw (l, j.high) (sym (w_number u x))) (omega arith) in
      record {
        next = rw (j.u1, j.u2);
        sends = rw (a.0, b.0) (sent_parts u x hx);
        v_small = a.1;
        w_small = b.1;
      }

-- a part of a packed buffer that is there has its length
pub length_part : (l : List ℕ) (at n : ℕ) → at + n ≤ 8 * length l → length (take n (drop at (unpack l))) ≡ n
length_part l at n h =
    let e = length_unpack l in
    length-take-le n (drop at (unpack l)) (simp length-drop (omega arith))

-- the same of a pair whose n bits are got from a frame l: as the code has it
module _ (forced : Bool) (s : TrellisState) (x y : ℕ) (l : List ℕ) (at n g : ℕ) (i : Inputs) (hx : 2 ≤ x) (hy : 2 ≤ y)
    (room : at + taken forced (pair x y) ≤ 8 * length l) (hn : n ≡ taken forced (pair x y)) (hg : g ≡ num (take n (drop at (unpack l))))
    (hi : i ≡ inputs_of forced s g) where
  is_input : i ≡ inputs_of forced s (num (take (taken forced (pair x y)) (drop at (unpack l))))
  is_input = hi ∙ ap (inputs_of forced s) (hg ∙ ap (λ (m : ℕ). num (take m (drop at (unpack l)))) hn)

  pub got_high : x ≤ 15 → y ≤ 15 → i.high < 67108864
  got_high kx ky = high_small forced s x y _ hx hy (length_part l at (taken forced (pair x y)) room) kx ky i is_input

  pub got_pair : (low : LowBits) (v w : ℕ) → low ≡ low_bits s.s0 i.u1 i.u2 i.u3 → v ≡ label_number low.v0 low.v1 (i.high % 2 ^ (x - 2))
      → w ≡ label_number low.w0 low.w1 (i.high / 2 ^ (x - 2)) → PairCoded forced s x y (take (taken forced (pair x y)) (drop at (unpack l))) i v w
  got_pair low v w hl hv hw = pair_coded forced s x y _ hx hy (length_part l at (taken forced (pair x y)) room) i low v w is_input hl hv hw

-- ---- a first pair with x = 0

pub record FirstCoded (s : TrellisState) (y : ℕ) (f : List Bool) (sent : ℕ) : Type 0 where
  pub sends : bits y sent ≡ sent_bits 0 (word_of false s 0 f)
  pub small : sent < 2 ^ y

first_number : (a b h : ℕ) → a + 2 * (b + 2 * h) ≡ a + 2 * b + 4 * h
first_number a b h = omega arith

first_coded : (s : TrellisState) (y : ℕ) (f : List Bool) (low : LowBits) (sent : ℕ) → 2 ≤ y → length f ≡ y - 1
    → low ≡ low_bits s.s0 false (odd (num f)) false → sent ≡ label_number low.w0 low.w1 (num f / 2) → FirstCoded s y f sent
unfolding word_of sent_bits num
first_coded s y f low sent h hf hl hs =
    let u : Word = word_of false s 0 f in
    let b : bit f 0 ≡ odd (num f) = bit_num f 0 ∙ ap odd (div-one (num f)) in
    let l : low ≡ low_bits_of u = hl ∙ rw b in
    let n : sent ≡ num (sent_bits 0 u) = hs ∙ rw (l, ← (num_drop 1 f)) (sym (first_number _ _ _)) in
    let m : length (sent_bits 0 u) ≡ y = let d = length-drop 1 f in omega arith in
    record {
      sends = rw (n, ← m) (bits_num (sent_bits 0 u));
      small = rw (n, ← m) (num_lt (sent_bits 0 u));
    }

-- as the code has it
module _ (l : List ℕ) (at y g : ℕ) (h : 2 ≤ y) (room : at + y ≤ 8 * length l + 1) (hg : g ≡ num (take (y - 1) (drop at (unpack l)))) where
  pub got_first : (s : TrellisState) (low : LowBits) (sent : ℕ) → low ≡ low_bits s.s0 false (odd g) false → sent ≡ label_number low.w0 low.w1 (g / 2)
      → FirstCoded s y (take (taken false (pair 0 y)) (drop at (unpack l))) sent
  got_first s low sent hl hs =
      let e : 0 + y - 1 ≡ y - 1 = omega arith in
      rw e (first_coded s y (take (y - 1) (drop at (unpack l))) low sent h (length_part l at (y - 1) (omega arith)) (rw hg at hl) (rw hg at hs))

  pub got_next : (s : TrellisState) → next_state s false (odd g) ≡ next_of s (word_of false s 0 (take (taken false (pair 0 y)) (drop at (unpack l))))
  unfolding word_of
  got_next s =
      let e : 0 + y - 1 ≡ y - 1 = omega arith in
      rw (e, hg, bit_num (take (y - 1) (drop at (unpack l))) 0, div-one)

  pub got_low : y ≤ 15 → g / 2 < 536870912
  got_low k =
      let b : g < 2 ^ (y - 1) = rw hg (num_take_lt (y - 1) (drop at (unpack l))) in
      let d : 2 ^ (y - 1) ≤ 2 ^ 29 = pow_mono {j = 29} (omega arith) in
      lt_of_le_of_lt (div-le_self g 2) (lt_of_lt_of_le b d)
