-- Laws of the tones: those from a place on, and counts over all tones by the bit table.
use Prim.Native.Nat.{ℕ, zero, suc, ◌+◌, ◌<◌, ◌≤◌}
use native.Mathlib.Omega.{arith}
use mir.Val.{bool_byte}
use mathlib.Core.Bool.{Bool, true, false}
use mathlib.Core.List.{List, [], ◌∷◌, map}
use mathlib.Core.Path.{◌≡◌, refl, sym, ap, ap₂, ◌∙◌}
use lib.Seq.{drop-cons}
use native.Mathlib.Numerals.{add-one}
use lib.ListN.{get_or, length, drop, length-map}
use Rattle.g9932.specs.Bits.{weight}
use Rattle.g9932.specs.Sizes.{entry}
use Rattle.g9932.specs.Order.{sum, count, bits_of}
use Rattle.g9932.proofs.Members.{sum_members}
use Rattle.tables.specs.Counted.{ListsPass}

-- a list from place i on, where there is an entry
pub drop_some : {A : Type 0} (l : List A) (i : ℕ) (a : A) → i < length l → drop i l ≡ get_or l i a ∷ drop (i + 1) l
drop_some l i a h = rw (add-one, drop-cons l i a)

-- the tones from place i on, with the value that was read
pub tones_next : (t : List ℕ) (i : ℕ) {k : ℕ} → k ≡ entry t i → i < length t → drop i t ≡ k ∷ drop (i + 1) t
tones_next t i x h = drop_some t i 0 h ∙ ap (λ (w : ℕ). w ∷ drop (i + 1) t) (sym x)

-- a test as a number to count with
pub test_weight : (b : Bool) → (bool_byte b ≡ weight b) × (bool_byte b ≤ 1)
unfolding weight
test_weight true = (refl, omega arith)
test_weight false = (refl, omega arith)

-- ---- over all tones, and over the bit table

-- a number for each entry, 0 for 0
module _ (f : ℕ → ℕ) (z : f 0 ≡ 0) where
  entry_map : (b : List ℕ) (k : ℕ) → entry (map f b) k ≡ f (entry b k)
  entry_map [] k = sym z
  entry_map (n ∷ b) zero = refl
  entry_map (n ∷ b) (suc k) = entry_map b k

  bits_map : (b t : List ℕ) → bits_of (map f b) t ≡ map f (bits_of b t)
  bits_map b [] = refl
  bits_map b (k ∷ t) = ap₂ (λ (n : ℕ) (l : List ℕ). n ∷ l) (entry_map b k) (bits_map b t)

  sum_table : (b t : List ℕ) → ListsPass b t → sum (map f (bits_of b t)) ≡ sum (map f b)
  sum_table b t m =
      sym (ap sum (bits_map b t))
      ∙ sum_members t (map f b) m.once (λ k l. rw length-map (m.below k l)) (λ k e. entry_map b k ∙ ap f (m.stray_bits k e) ∙ z)

count_sum : (p : ℕ → Bool) (l : List ℕ) → count p l ≡ sum (map (λ n. weight (p n)) l)
count_sum p [] = refl
count_sum p (n ∷ l) = ap (λ (m : ℕ). weight (p n) + m) (count_sum p l)

pub count_table : (p : ℕ → Bool) → p 0 ≡ false → (b t : List ℕ) → ListsPass b t → count p (bits_of b t) ≡ count p b
unfolding weight
count_table p z b t m = count_sum p (bits_of b t) ∙ sum_table (λ n. weight (p n)) (ap weight z) b t m ∙ sym (count_sum p b)
