-- Laws of wrong bits: a frame has none exactly when it is the one that was sent, and a frame of bytes has at most 8 a byte.
use Prim.Native.Nat.{ℕ, suc, ◌*◌, ◌≤◌}
use mathlib.Core.Bool.{true}
use mathlib.Core.List.{List, [], ◌∷◌}
use mathlib.Core.Logic.{◌↔◌, ◌≢◌, ⊎_elim}
use mathlib.Core.Path.{◌≡◌, refl, ap, ap₂, ◌∙◌}
use native.Mathlib.Nat.{eq-zero-or-pos}
use native.Mathlib.Omega.{arith}
use borrow.Author.Tests.{ltb-true, lt-ltb}
use lib.Arith.{bin_ind}
use lib.Bits.{bit_xor, xor_add_and, and_le_l, and_le_r, xor_self, xor_lt}
use lib.Count.{ones, ones_step, ones-le}
use lib.ListN.{length}
use Rattle.guarantees.specs.Words.{Bytes}
use Rattle.tally.specs.PairReport.{read_as, wrong_bits, is_wrong}

-- ---- of a byte

ones_none : (n : ℕ) → ones n ≡ 0 → n ≡ 0
ones_none = bin_ind (λ (n : ℕ). ones n ≡ 0 → n ≡ 0) (λ _. refl) (λ n ih e. let s = ones_step n in omega (arith, ih (omega arith)))

xor_none : (a b : ℕ) → bit_xor a b ≡ 0 → b ≡ a
xor_none a b e = omega (arith, xor_add_and a b, and_le_l a b, and_le_r a b)

-- ---- of a frame

pub none_wrong : (s r : List ℕ) → length s ≡ length r → wrong_bits s r ≡ 0 → r ≡ s
unfolding wrong_bits
none_wrong [] [] l e = refl
none_wrong [] (b ∷ r) l e = absurd (omega arith)
none_wrong (a ∷ s) [] l e = absurd (omega arith)
none_wrong (a ∷ s) (b ∷ r) l e =
    ap₂ (λ (x : ℕ) (y : List ℕ). x ∷ y) (xor_none a b (ones_none (bit_xor a b) (omega arith))) (none_wrong s r (omega arith) (omega arith))

ones_same : (a : ℕ) → ones (bit_xor a a) ≡ 0
unfolding ones
ones_same a = ap ones (xor_self a)

pub same_right : (s : List ℕ) → wrong_bits s s ≡ 0
unfolding wrong_bits
same_right [] = refl
same_right (a ∷ s) = omega (arith, ones_same a, same_right s)

pub wrong_most : (s r : List ℕ) → Bytes s → Bytes r → wrong_bits s r ≤ 8 * length s
unfolding wrong_bits
wrong_most [] r hs hr = omega arith
wrong_most (a ∷ s) [] hs hr = omega arith
wrong_most (a ∷ s) (b ∷ r) hs hr =
    let one : ones (bit_xor a b) ≤ 8 = ones-le 8 (bit_xor a b) (xor_lt 8 a b (hs 0 (omega arith)) (hr 0 (omega arith))) in
    let rest = wrong_most s r (λ k h. hs (suc k) (omega arith)) (λ k h. hr (suc k) (omega arith)) in
    omega arith

pub wrong_frame : (s r : List ℕ) → length s ≡ length r → (is_wrong (read_as s r) ≡ true) ↔ (r ≢ s)
wrong_frame s r l = (
  λ h e. let z : wrong_bits s r ≡ 0 = ap (wrong_bits s) e ∙ same_right s in omega (arith, ltb-true 0 (wrong_bits s r) h),
  λ other. lt-ltb 0 (wrong_bits s r) (⊎_elim (λ z. absurd (other (none_wrong s r l z))) (λ p. p) (eq-zero-or-pos (wrong_bits s r))),
)
