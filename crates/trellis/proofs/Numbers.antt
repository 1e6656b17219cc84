-- A pair's word and its labels as numbers.
use mathlib.Core.Path.{◌≡◌, refl, sym, ap, ◌∙◌}
use mathlib.Core.Bool.{Bool, true, false}
use mathlib.Core.List.{List, [], ◌∷◌}
use Prim.Native.Nat.{ℕ, suc, ◌-◌, ◌*◌, ◌/◌, ◌%◌, ◌^◌, ◌<◌}
use lib.Pow.{shl_exact}
use native.Mathlib.Nat.{add-zero}
use native.Mathlib.Omega.{arith}
use lib.ListN.{take, drop, get_or}
use lib.Seq.{get_or-drop}
use Rattle.g9932.specs.Bits.{◌⊕◌, bit, odd, num, weight}
use Rattle.std.specs.Int.{from_bool}
use Rattle.g9932.specs.Trellis.{Word, word_of, low_bits_of}
use Rattle.g9932.specs.declared.TrellisState.{TrellisState}
use Rattle.g9932.proofs.Words.{odd_weight, num_take, num_drop}
use Rattle.trellis.specs.Coding.{label_number}

-- a bit as a number, as the code has it
pub weight_from : (b : Bool) → from_bool b ≡ weight b
unfolding weight
weight_from true = refl
weight_from false = refl

-- 2 to the k, as the code shifts it
pub one_shifted : (k : ℕ) → k < 32 → 1 * 2 ^ k % 4294967296 ≡ 2 ^ k
one_shifted k h = shl_exact 1 k 32 (omega arith) (omega arith) ∙ (omega arith)

pub lowest : (l : List Bool) → bit l 0 ≡ odd (num l)
unfolding num odd
lowest [] = refl
lowest (b ∷ l) = sym (odd_weight b (num l))

pub bit_num : (l : List Bool) (i : ℕ) → bit l i ≡ odd (num l / 2 ^ i)
bit_num l i =
    let e : get_or (drop i l) 0 false ≡ get_or l i false = get_or-drop i l 0 false ∙ ap (λ (n : ℕ). get_or l n false) (add-zero i) in
    sym e ∙ lowest (drop i l) ∙ ap odd (num_drop i l)

-- u1 to u3 of a pair's word, and u4 upward as a number
pub record Inputs : Type 0 where
  pub u1 : Bool
  pub u2 : Bool
  pub u3 : Bool
  pub high : ℕ

-- from the number of the bits that the pair takes
unfoldable pub inputs_of : Bool → TrellisState → ℕ → Inputs
inputs_of true s f = record { u1 = s.s1 ⊕ s.s3; u2 = s.s2; u3 = odd f; high = f / 2 }
inputs_of false s f = record { u1 = odd f; u2 = odd (f / 2); u3 = odd (f / 4); high = f / 8 }

-- what they have of a word
pub record IsInputs (u : Word) (r : Inputs) : Type 0 where
  pub u1 : r.u1 ≡ u.u1
  pub u2 : r.u2 ≡ u.u2
  pub u3 : r.u3 ≡ u.u3
  pub high : r.high ≡ num u.high

pub inputs_word : (forced : Bool) (s : TrellisState) (x : ℕ) (f : List Bool) → IsInputs (word_of forced s (suc x) f) (inputs_of forced s (num f))
unfolding word_of inputs_of
inputs_word true s x f = record { u1 = refl; u2 = refl; u3 = sym (lowest f); high = sym (num_drop 1 f) }
inputs_word false s x f = record { u1 = sym (lowest f); u2 = sym (bit_num f 1); u3 = sym (bit_num f 2); high = sym (num_drop 3 f) }

-- the labels as numbers
pub v_number : (u : Word) (x : ℕ) → num ((low_bits_of u).v0 ∷ (low_bits_of u).v1 ∷ take (x - 2) u.high) ≡ label_number (low_bits_of u).v0 (low_bits_of u).v1 (num u.high % 2 ^ (x - 2))
unfolding num
v_number u x = rw (num_take (x - 2) u.high) (omega arith)

pub w_number : (u : Word) (x : ℕ) → num ((low_bits_of u).w0 ∷ (low_bits_of u).w1 ∷ drop (x - 2) u.high) ≡ label_number (low_bits_of u).w0 (low_bits_of u).w1 (num u.high / 2 ^ (x - 2))
unfolding num
w_number u x = rw (num_drop (x - 2) u.high) (omega arith)
