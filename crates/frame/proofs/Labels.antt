-- Labels as bits: one more, and one written; labels at places.
use mathlib.Core.Path.{◌≡◌, refl, sym, ap, ◌∙◌}
use mathlib.Core.Bool.{Bool, true, false}
use mathlib.Core.List.{List, [], ◌∷◌, ◌++◌, append_assoc, append-nil}
use Prim.Native.Nat.{ℕ, zero, suc, ◌+◌, ◌^◌, ◌<◌}
use native.Mathlib.Numerals.{add-one}
use native.Mathlib.Omega.{arith}
use lib.Dec.{eqb}
use borrow.Author.Tests.{eqb-true, eqb-false}
use lib.ListN.{length, take, drop, get_or, set}
use lib.Seq.{drop-cons, take-suc, take-suc-set, length-take-le, get_or-set_same, get_or-set_other}
use Rattle.g9932.specs.Bits.{bits}
use Rattle.g9932.specs.Sizes.{entry}
use Rattle.frame.specs.Labels.{bits_of_labels, Within, labels_at, Rising, Placed}

-- a label after the others
labels_more : (es ls : List ℕ) (e l : ℕ) → length es ≡ length ls → bits_of_labels (es ++ (e ∷ [])) (ls ++ (l ∷ [])) ≡ bits_of_labels es ls ++ bits e l
labels_more [] [] e l h = append-nil (bits e l)
labels_more [] (a ∷ ls) e l h = absurd (omega arith)
labels_more (d ∷ es) [] e l h = absurd (omega arith)
labels_more (d ∷ es) (a ∷ ls) e l h = ap (λ t. bits d a ++ t) (labels_more es ls e l (omega arith)) ∙ sym (append_assoc (bits d a) (bits_of_labels es ls) (bits e l))

-- labels past the last count add no bits
pub labels_take : (es ls : List ℕ) → bits_of_labels es (take (length es) ls) ≡ bits_of_labels es ls
labels_take [] ls = refl
labels_take (e ∷ es) [] = refl
labels_take (e ∷ es) (l ∷ ls) = ap (λ t. bits e l ++ t) (labels_take es ls)

-- the label at i, and those after it
pub labels_drop : (es ls : List ℕ) (i : ℕ) → i < length es → i < length ls
    → bits_of_labels (drop i es) (drop i ls) ≡ bits (get_or es i 0) (get_or ls i 0) ++ bits_of_labels (drop (i + 1) es) (drop (i + 1) ls)
labels_drop es ls i h k = rw (add-one, drop-cons es i 0 h, drop-cons ls i 0 k)

-- the label at i written
pub labels_set : (es ls : List ℕ) (i l : ℕ) → i < length es → i < length ls
    → bits_of_labels (take (i + 1) es) (take (i + 1) (set ls i l)) ≡ bits_of_labels (take i es) (take i ls) ++ bits (get_or es i 0) l
labels_set es ls i l h k =
    rw (add-one, take-suc es i 0 h, take-suc-set ls i l k)
    (labels_more (take i es) (take i ls) (get_or es i 0) l (length-take-le i es (omega arith) ∙ sym (length-take-le i ls (omega arith))))

pub within_set : (es ls : List ℕ) (i l : ℕ) → i < length ls → Within es ls i → l < 2 ^ get_or es i 0 → Within es (set ls i l) (i + 1)
within_set es ls i l k w s j h = at (eqb j i) refl
  where
    at : (e : Bool) → eqb j i ≡ e → get_or (set ls i l) j 0 < 2 ^ get_or es j 0
    at true q = rw (eqb-true j i q, get_or-set_same ls i l 0 k) s
    at false q = rw (get_or-set_other ls i j l 0 (eqb-false j i q)) (w j (let n = eqb-false j i q in omega arith))

-- ---- labels at places

pub length_at : (ps ls : List ℕ) → length (labels_at ps ls) ≡ length ps
length_at [] ls = refl
length_at (p ∷ ps) ls = ap suc (length_at ps ls)

pub at_get : (ps ls : List ℕ) (j : ℕ) → j < length ps → entry (labels_at ps ls) j ≡ entry ls (entry ps j)
at_get [] ls j h = absurd (omega arith)
at_get (p ∷ ps) ls zero h = refl
at_get (p ∷ ps) ls (suc j) h = at_get ps ls j (omega arith)

-- a label put past all of these places
at_past : (ps ls : List ℕ) (p x : ℕ) → ((j : ℕ) → j < length ps → (entry ps j ≡ p → ⊥)) → labels_at ps (set ls p x) ≡ labels_at ps ls
at_past [] ls p x n = refl
at_past (q ∷ ps) ls p x n = λ i. get_or-set_other ls p q x 0 (n 0 (omega arith)) i ∷ at_past ps ls p x (λ j h. n (suc j) (omega arith)) i

rising_tail : (p : ℕ) (ps : List ℕ) (n : ℕ) → Rising (p ∷ ps) n → Rising ps n
rising_tail p ps n r = record { below = λ j h. r.below (suc j) (omega arith); rises = λ j k l h. r.rises (suc j) (suc k) (omega arith) (omega arith) }

-- a label put at the place of entry j
pub at_set : (ps ls : List ℕ) (j x : ℕ) → Rising ps (length ls) → j < length ps → labels_at ps (set ls (entry ps j) x) ≡ set (labels_at ps ls) j x
at_set [] ls j x r h = absurd (omega arith)
at_set (p ∷ ps) ls zero x r h =
    λ i. get_or-set_same ls p x 0 (r.below 0 (omega arith)) i ∷ at_past ps ls p x (λ j k e. let l = r.rises 0 (suc j) (omega arith) (omega arith) in omega (arith, e, l)) i
at_set (p ∷ ps) ls (suc j) x r h =
    λ i. get_or-set_other ls (entry ps j) p x 0 (λ e. let l = r.rises 0 (suc j) (omega arith) h in omega (arith, e, l)) i ∷ at_set ps ls j x (rising_tail p ps (length ls) r) (omega arith) i

pub placed_length : {es ps ls : List ℕ} → Placed es ps ls → length (labels_at ps ls) ≡ length es
placed_length {ps = ps} {ls = ls} p = length_at ps ls ∙ p.places_length
