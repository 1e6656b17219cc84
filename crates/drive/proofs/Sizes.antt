-- Sizes of numbers that are 512ths, as the code compares them.
use Prim.Native.Nat.{ℕ, zero, suc, ◌≤◌}
use native.Mathlib.Omega.{arith}
use borrow.Author.Tests.{ltb-true, ltb-false}
use mathlib.Core.Bool.{Bool, true, false, cond}
use mathlib.Core.Logic.{◌⊎◌, inl, inr, ⊎_elim}
use mathlib.Core.Path.{◌≡◌, refl, sym, ap, ◌∙◌}
use lib.Dec.{ltb}
use lib.IntN.{ℤ, pos, negsuc, nat_abs}
use lib.Ieee.{Float, lt, of_bits, odd, is_nan}
use Rattle.std.specs.Float.{◌≤ᶠ◌, NotNan, IsFloatMax, float_with_sign}
use Rattle.std.proofs.lemmas.Float.{lt_irrefl, lt_of_lt_of_le, T_from_true}
use Rattle.g9932.proofs.Over512.{lt_over}
use Rattle.g9932.specs.Drive.{over512, larger}
use Rattle.g9932.specs.declared.Peak.{Peak}
use Rattle.drive.specs.Peaks.{LargerOf, Raises}

-- the literal 0.0
pub zero_is : of_bits lib.Ieee.binary32 0 ≡ over512 (pos 0)
unfolding of_bits over512 odd
zero_is = refl

-- `v.abs()`
pub abs_over : (z : ℤ) → float_with_sign false (over512 z) ≡ over512 (pos (nat_abs z))
unfolding float_with_sign over512 odd
abs_over (pos zero) = refl
abs_over (pos (suc n)) = refl
abs_over (negsuc n) = refl

-- of two that are not negative, as `max` compares them
not_above : (a b : ℕ) → over512 (pos a) ≤ᶠ over512 (pos b) → a ≤ b
not_above a b h = go (ltb b a) refl
  where
    go : (t : Bool) → ltb b a ≡ t → a ≤ b
    go true e = absurd (lt_irrefl (over512 (pos b)) (lt_of_lt_of_le (over512 (pos b)) (over512 (pos a)) (over512 (pos b)) (T_from_true _ (lt_over b a ∙ e)) h))
    go false e = ltb-false b a e

not_nan : (n : ℕ) → NotNan (over512 (pos n))
unfolding over512 odd is_nan
not_nan zero = tt
not_nan (suc n) = tt

chosen : {A : Type 0} (t : Bool) (x y r : A) → r ≡ cond t x y → (r ≡ x) ⊎ (r ≡ y)
chosen true x y r e = inl e
chosen false x y r e = inr e

larger_or : (a b n : ℕ) → (n ≡ a) ⊎ (n ≡ b) → a ≤ n → b ≤ n → n ≡ larger a b
larger_or a b n c p q = go (ltb a b) refl
  where
    go : (t : Bool) → ltb a b ≡ t → n ≡ cond t b a
    go true e = ⊎_elim (λ i. absurd (omega (arith, ltb-true a b e))) (λ i. i) c
    go false e = ⊎_elim (λ i. i) (λ i. omega (arith, ltb-false a b e)) c

max_over : (a b : ℕ) (r : Float) → IsFloatMax (over512 (pos a)) (over512 (pos b)) r → over512 (pos a) ≤ᶠ r → over512 (pos b) ≤ᶠ r → r ≡ over512 (pos (larger a b))
max_over a b r v p q = ⊎_elim first second (⊎_elim (chosen _ x y r) (λ e. ⊎_elim inr inl (chosen _ y x r e)) v)
  where
    x : Float
    x = over512 (pos a)

    y : Float
    y = over512 (pos b)

    first : r ≡ x → r ≡ over512 (pos (larger a b))
    first e = e ∙ ap (λ (n : ℕ). over512 (pos n)) (larger_or a b a (inl refl) (omega arith) (not_above b a (rw e at q)))

    second : r ≡ y → r ≡ over512 (pos (larger a b))
    second e = e ∙ ap (λ (n : ℕ). over512 (pos n)) (larger_or a b b (inr refl) (not_above a b (rw e at p)) (omega arith))

-- the larger one of `x.abs()` and `y.abs()`, by `max`
pub larger_by_max : {x y a b r : Float} → a ≡ float_with_sign false x → b ≡ float_with_sign false y → IsFloatMax a b r → (NotNan a → a ≤ᶠ r) → (NotNan b → b ≤ᶠ r) → LargerOf x y r
larger_by_max {x} {y} {a} {b} {r} ia ib v p q = record {
  larger_is = λ u w eu ew.
      let ea : a ≡ over512 (pos (nat_abs u)) = ia ∙ ap (float_with_sign false) eu ∙ abs_over u in
      let eb : b ≡ over512 (pos (nat_abs w)) = ib ∙ ap (float_with_sign false) ew ∙ abs_over w in
      max_over (nat_abs u) (nat_abs w) r (rw (ea, eb) at v) ((rw ea at p) (not_nan (nat_abs u))) ((rw eb at q) (not_nan (nat_abs w)));
}

module _ {peak : Peak} {x y s : Float} {k : ℕ} (l : LargerOf x y s) where
  pub raised_here : lt peak.size s ≡ true → Raises peak x y k (record { size = s; place = record { 0 = k } })
  raised_here h = record {
    raised_is = λ m a b e ea eb.
        let n : ℕ = larger (nat_abs a) (nat_abs b) in
        let q = l.larger_is a b ea eb in
        let t : ltb m.most n ≡ true = sym (lt_over m.most n) ∙ ap (lt (over512 (pos m.most))) (sym q) ∙ ap (λ (p : Peak). lt p.size s) (sym e) ∙ h in
        rw t (ap (λ (z : Float). record { size = z; place = record { 0 = k } }) q);
  }

  pub raised_not : lt peak.size s ≡ false → Raises peak x y k peak
  raised_not h = record {
    raised_is = λ m a b e ea eb.
        let n : ℕ = larger (nat_abs a) (nat_abs b) in
        let q = l.larger_is a b ea eb in
        let t : ltb m.most n ≡ false = sym (lt_over m.most n) ∙ ap (lt (over512 (pos m.most))) (sym q) ∙ ap (λ (p : Peak). lt p.size s) (sym e) ∙ h in
        rw t e;
  }
