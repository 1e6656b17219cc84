-- Laws of the marks: after a pass over the first i tones the array is true at the tones passed, and nowhere else; and as many
-- marks as tones say that no tone comes twice.
use Rattle.std.specs.Prelude.{None}
use Prim.Native.Nat.{ℕ, zero, suc, ◌+◌, ◌<◌, ◌≤◌}
use mathlib.Core.Bool.{Bool, true, false, ◌||◌, or-true, or-false, or_assoc}
use mathlib.Core.List.{List, [], ◌∷◌, ◌++◌}
use mathlib.Core.Path.{◌≡◌, refl, sym, ap, ◌∙◌}
use native.Mathlib.Numerals.{add-one}
use native.Mathlib.Omega.{arith}
use borrow.Author.Tests.{eqb-true, eqb-false, leb-false}
use lib.Dec.{eqb}
use lib.ListN.{length, get_or, take, set, replicate, get_or-replicate, length-set, length-replicate}
use lib.Seq.{take-suc, get_or-set_same, get_or-set_other}
use Rattle.g9932.specs.Bits.{weight, first}
use Rattle.g9932.specs.Sizes.{entry, most_tones}
use Rattle.g9932.specs.Refusals.{tone_test, member, twice_test}
use Rattle.g9932.proofs.Identities.{or-false as or_false_parts}
use Rattle.g9932.proofs.Search.{first_no, first_all}
use Rattle.tables.specs.Checks.{Below, marked, trues, Marks}

member_snoc : (k x : ℕ) (ys : List ℕ) → member k (ys ++ (x ∷ [])) ≡ member k ys || eqb k x
member_snoc k x [] = or-false (eqb k x)
member_snoc k x (y ∷ ys) = ap (λ (b : Bool). eqb k y || b) (member_snoc k x ys) ∙ sym (or_assoc (eqb k y) (member k ys) (eqb k x))

pub marks_none : (t : List ℕ) {seen : List Bool} → seen ≡ replicate most_tones false → Marks (take 0 t) seen
marks_none t e k h = ap (λ (l : List Bool). get_or l k false) e ∙ get_or-replicate most_tones k false false h

-- one mark more
set_mark : (seen : List Bool) (x k : ℕ) → x < length seen → get_or (set seen x true) k false ≡ get_or seen k false || eqb k x
set_mark seen x k l = go (eqb k x) refl
  where
    go : (e : Bool) → eqb k x ≡ e → get_or (set seen x true) k false ≡ get_or seen k false || e
    go true q = rw (eqb-true k x q) (get_or-set_same seen x true false l ∙ sym (or-true (get_or seen x false)))
    go false q = get_or-set_other seen x k true false (eqb-false k x q) ∙ sym (or-false (get_or seen k false))

module _ (t : List ℕ) (i : ℕ) (seen : List Bool) (m : Marks (take i t) seen) where
  pub marks_more : {x : ℕ} → x ≡ entry t i → length seen ≡ most_tones → i < length t → x < most_tones → Marks (take (i + 1) t) (set seen x true)
  marks_more {x} q n l b k h =
      let e : take (i + 1) t ≡ take i t ++ (x ∷ []) = rw (add-one, take-suc t i 0, q) in
      set_mark seen x k (omega arith) ∙ ap (λ (z : Bool). z || eqb k x) (m k h) ∙ sym (member_snoc k x (take i t)) ∙ sym (ap (member k) e)

-- ---- a whole list of tones marked

-- one tone more, and the end
pub marked_step : (seen : List Bool) {goal : List Bool} {t rest : List ℕ} {k : ℕ} → t ≡ k ∷ rest → marked seen t ≡ goal → marked (set seen k true) rest ≡ goal
unfolding marked
marked_step seen e q = sym (ap (marked seen) e) ∙ q

pub marked_done : (seen : List Bool) {goal : List Bool} {t : List ℕ} → t ≡ [] → marked seen t ≡ goal → seen ≡ goal
unfolding marked
marked_done seen e q = sym (ap (marked seen) e) ∙ q

below_tail : (x : ℕ) (t : List ℕ) (seen : List Bool) → Below (length seen) (x ∷ t) → Below (length (set seen x true)) t
below_tail x t seen w k l = rw length-set (w (suc k) (omega arith))

length_marked : (t : List ℕ) (seen : List Bool) → length (marked seen t) ≡ length seen
unfolding marked
length_marked [] seen = refl
length_marked (x ∷ t) seen = length_marked t (set seen x true) ∙ length-set seen x true

marked_at : (t : List ℕ) (seen : List Bool) → Below (length seen) t → (k : ℕ) → get_or (marked seen t) k false ≡ get_or seen k false || member k t
unfolding marked
marked_at [] seen w k = sym (or-false (get_or seen k false))
marked_at (x ∷ t) seen w k =
    marked_at t (set seen x true) (below_tail x t seen w) k
    ∙ ap (λ (z : Bool). z || member k t) (set_mark seen x k (w 0 (omega arith)))
    ∙ or_assoc (get_or seen k false) (eqb k x) (member k t)

-- a mark more is one more, unless it is there
trues_set : (seen : List Bool) (x : ℕ) → x < length seen → trues (set seen x true) + weight (get_or seen x false) ≡ trues seen + 1
unfolding weight
trues_set [] x h = absurd (omega arith)
trues_set (true ∷ seen) zero h = omega arith
trues_set (false ∷ seen) zero h = omega arith
trues_set (b ∷ seen) (suc x) h = omega (arith, trues_set seen x (omega arith))

trues_none : (n : ℕ) → trues (replicate n false) ≡ 0
unfolding weight
trues_none zero = refl
trues_none (suc n) = omega (arith, trues_none n)

-- there are at most as many as tones,
marked_most : (t : List ℕ) (seen : List Bool) → Below (length seen) t → trues (marked seen t) ≤ trues seen + length t
unfolding marked
marked_most [] seen w = omega arith
marked_most (x ∷ t) seen w =
    omega (arith, trues_set seen x (w 0 (omega arith)), marked_most t (set seen x true) (below_tail x t seen w))

weight_none : (b : Bool) → weight b ≡ 0 → b ≡ false
unfolding weight
weight_none true e = absurd (omega arith)
weight_none false e = refl

-- and as many only where no tone was marked before
fresh : (t : List ℕ) (seen : List Bool) → Below (length seen) t → trues (marked seen t) ≡ trues seen + length t
    → (k : ℕ) → k < length t → (get_or seen (entry t k) false ≡ false) × (twice_test t k ≡ false)
unfolding marked
fresh [] seen w e k h = absurd (omega arith)
fresh (x ∷ t) seen w e zero h =
    let a = trues_set seen x (w 0 (omega arith)) in
    let m = marked_most t (set seen x true) (below_tail x t seen w) in
    (weight_none (get_or seen x false) (omega arith), refl)
fresh (x ∷ t) seen w e (suc k) h =
    let a = trues_set seen x (w 0 (omega arith)) in
    let m = marked_most t (set seen x true) (below_tail x t seen w) in
    let f = fresh t (set seen x true) (below_tail x t seen w) (omega arith) k (omega arith) in
    let g = or_false_parts (get_or seen (entry t k) false) (eqb (entry t k) x) (sym (set_mark seen x (entry t k) (w 0 (omega arith))) ∙ f.0) in
    (g.0, rw g.1 f.1)

-- where 2 applies to no place, every tone is below 4,096
pub tones_below_lem : (t : List ℕ) {g : ℕ} → g ≤ most_tones → first (tone_test g t) (length t) ≡ None → Below most_tones t
tones_below_lem t {g} top e k l = omega (arith, leb-false g (entry t k) (first_no (tone_test g t) (length t) e k l))

-- marking all of t, from no mark
module _ (t : List ℕ) (seen : List Bool) (none : seen ≡ replicate most_tones false) (below : Below most_tones t) {after : List Bool} (m : after ≡ marked seen t) where
  whole : length seen ≡ most_tones
  whole = ap length none ∙ length-replicate most_tones false

  within : Below (length seen) t
  within k l = omega (arith, below k l, whole)

  pub marked_whole : length after ≡ most_tones
  marked_whole = ap length m ∙ length_marked t seen ∙ whole

  pub marks_all : Marks t after
  marks_all k h =
      ap (λ (l : List Bool). get_or l k false) m
      ∙ marked_at t seen within k
      ∙ ap (λ (z : Bool). z || member k t) (ap (λ (l : List Bool). get_or l k false) none ∙ get_or-replicate most_tones k false false h)

  -- as many marks as tones say that 3 applies to no place
  pub none_twice : trues after ≡ length t → None ≡ first (twice_test t) (length t)
  none_twice e =
      let n = ap trues none ∙ trues_none most_tones in
      sym (first_all (twice_test t) (length t) (λ k l. (fresh t seen within (omega (arith, e, ap trues m)) k l).1))
