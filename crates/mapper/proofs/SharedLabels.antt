-- Labels changed from a place on, two at a time: what is changed and the change of what is left make the whole.
use Prim.Native.Nat.{ℕ, suc, ◌+◌, ◌*◌, ◌/◌, ◌%◌, ◌≤◌, ◌<◌}
use native.Mathlib.Numerals.{add-one}
use native.Mathlib.Omega.{arith}
use mathlib.Core.List.{List, [], ◌∷◌, ◌++◌, append_assoc}
use mathlib.Core.Path.{◌≡◌, refl, sym, ap, ◌∙◌}
use lib.ListN.{length, take, drop, set, length-set, length-drop, take-append-drop}
use lib.Seq.{take-suc-set, drop-set-lt, set-get_or, get_or-set_other}
use Rattle.g9932.proofs.Lists.{drop_two}
use Rattle.g9932.specs.Sizes.{entry}
use Rattle.mapper.specs.Writing.{split_ones}
use Rattle.mapper.specs.Reading.{join_ones, JoinNeeds}

-- the change f, made of the labels before i
pub record Changing (f : List ℕ → List ℕ) (from : ℕ) (ls₀ ls : List ℕ) (i : ℕ) : Type 0 where
  pub inside : i ≤ length ls
  pub labels_length : length ls ≡ length ls₀
  pub whole : take i ls ++ f (drop i ls) ≡ take from ls₀ ++ f (drop from ls₀)

pub change_start : {f : List ℕ → List ℕ} {from : ℕ} {ls₀ : List ℕ} → from ≤ length ls₀ → Changing f from ls₀ ls₀ from
change_start h = record { inside = h; labels_length = refl; whole = refl }

-- fewer than two are not changed
change_end : {f : List ℕ → List ℕ} {from : ℕ} {ls₀ ls : List ℕ} {i : ℕ} → ((l : List ℕ) → length l ≤ 1 → f l ≡ l) → Changing f from ls₀ ls i → length ls ≤ i + 1
    → ls ≡ take from ls₀ ++ f (drop from ls₀)
change_end {ls = ls} {i = i} same g h =
    sym (take-append-drop i ls) ∙ rw (same (drop i ls) (omega (arith, length-drop i ls))) at g.whole

abbrev two_set : List ℕ → ℕ → ℕ → ℕ → List ℕ
two_set ls i x y = set (set ls i x) (i + 1) y

module _ (ls : List ℕ) (i : ℕ) (l : i + 1 < length ls) where
  take_two : (x y : ℕ) → take (i + 2) (two_set ls i x y) ≡ take i ls ++ x ∷ y ∷ []
  take_two x y =
      let n : i + 2 ≡ suc (i + 1) = omega arith in
      let m : take (i + 1) (set ls i x) ≡ take i ls ++ (x ∷ []) = rw add-one (take-suc-set ls i x (omega arith)) in
      rw (n, take-suc-set (set ls i x) (i + 1) y (omega (arith, length-set ls i x)), m, append_assoc)

  change_step : (f : List ℕ → List ℕ) (x y : ℕ) → f (drop i ls) ≡ x ∷ y ∷ f (drop (i + 2) ls) → {from : ℕ} {ls₀ : List ℕ} → Changing f from ls₀ ls i
      → Changing f from ls₀ (two_set ls i x y) (i + 2)
  change_step f x y e g =
      let n : length (two_set ls i x y) ≡ length ls = length-set (set ls i x) (i + 1) y ∙ length-set ls i x in
      let d = drop-set-lt (i + 2) (set ls i x) (i + 1) y (omega arith) ∙ drop-set-lt (i + 2) ls i x (omega arith) in
      record {
        inside = omega arith;
        labels_length = n ∙ g.labels_length;
        whole = rw (take_two x y, d, append_assoc) (rw e at g.whole);
      }

  pub split_step : {from : ℕ} {ls₀ : List ℕ} → Changing split_ones from ls₀ ls i
      → Changing split_ones from ls₀ (two_set ls i (entry ls i % 2) (entry ls i / 2)) (i + 2)
  split_step = change_step split_ones (entry ls i % 2) (entry ls i / 2) (ap split_ones (drop_two ls i l))

  abbrev both : ℕ
  both = entry ls i + 2 * entry ls (i + 1)

  pub join_step : {from : ℕ} {ls₀ : List ℕ} → Changing join_ones from ls₀ ls i → Changing join_ones from ls₀ (set ls i both) (i + 2)
  join_step g =
      let kept : two_set ls i both (entry ls (i + 1)) ≡ set ls i both =
      ap (set (set ls i both) (i + 1)) (sym (get_or-set_other ls i (i + 1) both 0 (λ e. absurd (omega arith)))) ∙ set-get_or (set ls i both) (i + 1) 0 in
      rw kept at (change_step join_ones both (entry ls (i + 1)) (ap join_ones (drop_two ls i l)) g)

  -- two labels of one bit, and those after them
  module _ (needs : JoinNeeds ls i) where
    pub join_small : (entry ls i < 2) × (entry ls (i + 1) < 2)
    join_small = (needs.ones i (omega arith) (omega arith), needs.ones (i + 1) (omega arith) l)

    pub join_needs : JoinNeeds (set ls i both) (i + 2)
    join_needs =
        let n = length-set ls i both in
        record {
          inside = omega arith;
          ones = λ k h m. rw (get_or-set_other ls i k both 0 (λ e. absurd (omega arith))) (needs.ones k (omega arith) (omega arith));
        }

pub split_end : {from : ℕ} {ls₀ ls : List ℕ} {i : ℕ} → Changing split_ones from ls₀ ls i → length ls ≤ i + 1 → ls ≡ take from ls₀ ++ split_ones (drop from ls₀)
split_end = change_end few
  where
    few : (l : List ℕ) → length l ≤ 1 → split_ones l ≡ l
    few [] h = refl
    few (a ∷ []) h = refl
    few (a ∷ b ∷ l) h = absurd (omega arith)

pub join_end : {from : ℕ} {ls₀ ls : List ℕ} {i : ℕ} → Changing join_ones from ls₀ ls i → length ls ≤ i + 1 → ls ≡ take from ls₀ ++ join_ones (drop from ls₀)
join_end = change_end few
  where
    few : (l : List ℕ) → length l ≤ 1 → join_ones l ≡ l
    few [] h = refl
    few (a ∷ []) h = refl
    few (a ∷ b ∷ l) h = absurd (omega arith)
