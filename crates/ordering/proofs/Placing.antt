-- Laws of placing the tones in t' and b': what is left to write from place i on, and one tone more by its kind.
use Prim.Native.Nat.{ℕ, ◌+◌, ◌<◌, ◌≤◌}
use mathlib.Core.Bool.{Bool, true, false, not}
use mathlib.Core.List.{List, [], ◌∷◌}
use mathlib.Core.Path.{◌≡◌, refl, sym, ap, ◌∙◌}
use native.Mathlib.Omega.{arith}
use borrow.Author.Tests.{lt-leb, le-leb, eq-eqb, ne_eqb}
use lib.Dec.{leb}
use lib.ListN.{length, drop, set, drop_of_length-le, length-map, length-replicate}
use lib.Seq.{sets}
use Rattle.g9932.specs.Sizes.{entry}
use Rattle.g9932.specs.Order.{filter, is_one, bits_of, one_bit, singles, others, ones}
use Rattle.ordering.specs.Ordered.{Placing}
use Rattle.ordering.proofs.Runs.{Left, left_step, left_same}
use Rattle.tables.proofs.Counting.{tones_next}
use Rattle.g9932.proofs.Counts.{map_filter, filter_ones}

-- the counts of at least 2, in t order
abbrev pub bigs : List ℕ → List ℕ → List ℕ
bigs b t = filter (leb 2) (bits_of b t)

-- ---- one tone more

-- the bits of the tones from place i on, with the values that were read
pub bits_next : (b t : List ℕ) (i : ℕ) {k v : ℕ} → k ≡ entry t i → v ≡ entry b k → i < length t → bits_of b (drop i t) ≡ v ∷ bits_of b (drop (i + 1) t)
bits_next b t i x y h = ap (bits_of b) (tones_next t i x h) ∙ ap (λ (w : ℕ). w ∷ bits_of b (drop (i + 1) t)) (sym y)

-- as many 1-bit tones as are counted
pub length_singles : (b t : List ℕ) → length (singles b t) ≡ ones b t
length_singles b t =
    sym (length-map (singles b t) (entry b)) ∙ ap length (map_filter (entry b) is_one t ∙ filter_ones (bits_of b t)) ∙ length-replicate (ones b t) 1

-- ---- the lists of tones by kind, and of counts of at least 2, from place i on

filter_yes : (p : ℕ → Bool) (x : ℕ) {xs ys : List ℕ} → xs ≡ x ∷ ys → p x ≡ true → filter p xs ≡ x ∷ filter p ys
filter_yes p x {ys = ys} e q = ap (filter p) e ∙ rw q

filter_no : (p : ℕ → Bool) (x : ℕ) {xs ys : List ℕ} → xs ≡ x ∷ ys → p x ≡ false → filter p xs ≡ filter p ys
filter_no p x {ys = ys} e q = ap (filter p) e ∙ rw q

module _ (b t : List ℕ) (i : ℕ) {k v : ℕ} (x : k ≡ entry t i) (y : v ≡ entry b k) (h : i < length t) where
  single_here : v ≡ 1 → singles b (drop i t) ≡ k ∷ singles b (drop (i + 1) t)
  single_here e = filter_yes (one_bit b) k (tones_next t i x h) (ap is_one (sym y) ∙ eq-eqb v 1 e)

  single_past : (v ≡ 1 → ⊥) → singles b (drop i t) ≡ singles b (drop (i + 1) t)
  single_past e = filter_no (one_bit b) k (tones_next t i x h) (ap is_one (sym y) ∙ ne_eqb v 1 e)

  other_here : (v ≡ 1 → ⊥) → others b (drop i t) ≡ k ∷ others b (drop (i + 1) t)
  other_here e = filter_yes (λ j. not (one_bit b j)) k (tones_next t i x h) (ap (λ (z : ℕ). not (is_one z)) (sym y) ∙ ap not (ne_eqb v 1 e))

  other_past : v ≡ 1 → others b (drop i t) ≡ others b (drop (i + 1) t)
  other_past e = filter_no (λ j. not (one_bit b j)) k (tones_next t i x h) (ap (λ (z : ℕ). not (is_one z)) (sym y) ∙ ap not (eq-eqb v 1 e))

  big_here : 2 ≤ v → bigs b (drop i t) ≡ v ∷ bigs b (drop (i + 1) t)
  big_here e = filter_yes (leb 2) v (bits_next b t i x y h) (le-leb 2 v e)

  big_past : v < 2 → bigs b (drop i t) ≡ bigs b (drop (i + 1) t)
  big_past e = filter_no (leb 2) v (bits_next b t i x y h) (lt-leb 2 v e)

-- ---- what is left to write from place i on, each list from its cursor, gives what the whole gives from the start

-- the tones but the 1-bit ones, and the counts of at least 2
pub record OthersLeft (b t : List ℕ) (from : ℕ) (ts₀ bs₀ ts bs : List ℕ) (other at i : ℕ) : Type 0 where
  pub tones : Left ts other (others b (drop i t)) (length (others b t)) (sets ts₀ 0 (others b t))
  pub bits : Left bs at (bigs b (drop i t)) (from + length (bigs b t)) (sets bs₀ from (bigs b t))

pub others_start : {b t ts bs : List ℕ} {from : ℕ} → OthersLeft b t from ts bs ts bs 0 from 0
others_start = record { tones = record { fits = omega arith; gives = refl }; bits = record { fits = refl; gives = refl } }

module _ {b t ts₀ bs₀ ts bs : List ℕ} {from other at i : ℕ} (a : OthersLeft b t from ts₀ bs₀ ts bs other at i) where
  pub others_end : length t ≤ i → Placing b t from ts₀ bs₀ ts bs
  others_end h = let d : drop i t ≡ [] = drop_of_length-le t h in record { tones = rw d at a.tones.gives; bits = rw d at a.bits.gives }

  -- one tone more: k, with v bits
  module _ {k v : ℕ} (x : k ≡ entry t i) (y : v ≡ entry b k) (h : i < length t) where
    pub other_fits_lem : (v ≡ 1 → ⊥) → other < length (others b t)
    other_fits_lem e = omega (arith, a.tones.fits, ap length (other_here b t i x y h e))

    pub big_fits : 2 ≤ v → at < from + length (bigs b t)
    big_fits e = omega (arith, a.bits.fits, ap length (big_here b t i x y h e))

    pub others_past : v ≡ 1 → OthersLeft b t from ts₀ bs₀ ts bs other at (i + 1)
    others_past e =
        record {
          tones = left_same (other_past b t i x y h e) a.tones;
          bits = left_same (big_past b t i x y h (omega arith)) a.bits;
        }

    module _ {after : List ℕ} (e : v ≡ 1 → ⊥) (w : after ≡ set ts other k) where
      pub others_big : 2 ≤ v → OthersLeft b t from ts₀ bs₀ after (set bs at v) (other + 1) (at + 1) (i + 1)
      others_big f = record { tones = left_step w (other_here b t i x y h e) a.tones; bits = left_step refl (big_here b t i x y h f) a.bits }

      pub others_zero : v < 2 → OthersLeft b t from ts₀ bs₀ after bs (other + 1) at (i + 1)
      others_zero f = record { tones = left_step w (other_here b t i x y h e) a.tones; bits = left_same (big_past b t i x y h f) a.bits }

-- the 1-bit tones
pub record OnesLeft (b t : List ℕ) (behind : ℕ) (ts₀ ts : List ℕ) (one i : ℕ) : Type 0 where
  pub tones : Left ts one (singles b (drop i t)) (behind + length (singles b t)) (sets ts₀ behind (singles b t))

pub ones_start : {b t ts : List ℕ} {behind : ℕ} → OnesLeft b t behind ts ts behind 0
ones_start = record { tones = record { fits = refl; gives = refl } }

module _ {b t ts₀ ts : List ℕ} {behind one i : ℕ} (a : OnesLeft b t behind ts₀ ts one i) where
  pub ones_end : length t ≤ i → ts ≡ sets ts₀ behind (singles b t)
  ones_end h = let d : drop i t ≡ [] = drop_of_length-le t h in rw d at a.tones.gives

  module _ {k v : ℕ} (x : k ≡ entry t i) (y : v ≡ entry b k) (h : i < length t) where
    pub one_fits : v ≡ 1 → one < behind + length (singles b t)
    one_fits e = omega (arith, a.tones.fits, ap length (single_here b t i x y h e))

    pub one_more : {after : List ℕ} → v ≡ 1 → after ≡ set ts one k → OnesLeft b t behind ts₀ after (one + 1) (i + 1)
    one_more e w = record { tones = left_step w (single_here b t i x y h e) a.tones }

    pub one_past : (v ≡ 1 → ⊥) → OnesLeft b t behind ts₀ ts one (i + 1)
    one_past e = record { tones = left_same (single_past b t i x y h e) a.tones }
