-- The plain rule of request R-1 gives document 01's points and labels: by one induction over the bit count, for both directions.
use Rattle.std.specs.Prelude.{Option, None, Some}
use Prim.Native.Nat.{ℕ, zero, suc, ◌/◌, ◌%◌, ◌^◌, ◌≤◌, ◌<◌}
use mathlib.Core.Bool.{Bool, true, false, cond, false≢true}
use mathlib.Core.List.{List, [], ◌∷◌}
use mathlib.Core.Logic.{◌≢◌}
use mathlib.Core.Path.{◌≡◌, refl, sym, ap, ap₂, ◌∙◌}
use native.Mathlib.Nat.{pow-suc, mod-eq_of_lt}
use native.Mathlib.Omega.{arith}
use borrow.Author.Tests.{ne_eqb, ltb-false, leb-false}
use lib.Dec.{leb, ltb}
use lib.ListN.{length, get_or}
use Rattle.g9932.specs.Answers.{tone_refused, tone_done, map_label, label_found, read_point}
use Rattle.g9932.specs.Bits.{weight, num, odd, bits, first}
use Rattle.g9932.specs.Plain.{smallest, small_point, block_corner, in_block, plain_point, small_label, corner_of, low_label, of_block, fourfold, plain_label, label_number, plain_map, plain_found, plain_read}
use Rattle.g9932.specs.Points.{one_points, three_points, point_of, same_point, label_of}
use Rattle.g9932.specs.Refusals.{bit_count_test, label_test}
use Rattle.g9932.specs.Sizes.{Point, origin}
use Rattle.g9932.proofs.Blocks.{low_place, Block, block, of_corner, corner_of_lem, low_place_lem}
use Rattle.g9932.proofs.Constellations.{same_point_self, same_point→eq, point_inj}
use Rattle.g9932.proofs.Identities.{or-false}
use Rattle.g9932.proofs.Labels.{none_some, point_label, label_point}
use Rattle.g9932.proofs.Search.{found_not, first_no, first_found}
use Rattle.g9932.proofs.Words.{num_bits, bits_num, length_bits, num_lt, weight_odd}

-- ---- the two directions, at one bit count

record Agrees (b : ℕ) : Type 0 where
  pub points : (l : ℕ) → l < 2 ^ b → plain_point b l ≡ point_of b (bits b l)
  pub labels : (p : Point) → plain_label b p ≡ label_number (label_of b p)

pub from_four : (b : ℕ) → 4 ≤ b → b ≢ 5 → smallest b ≡ false
from_four b h n = rw (ne_eqb b 1 (λ e. omega arith), ne_eqb b 2 (λ e. omega arith), ne_eqb b 3 (λ e. omega arith), ne_eqb b 5 n)

-- the smallest constellations: as document 01 has them
small_point_lem : (b : ℕ) → smallest b ≡ true → (l : ℕ) → l < 2 ^ b → small_point b l ≡ point_of b (bits b l)
unfolding point_of
small_point_lem zero h l k = absurd (false≢true h)
small_point_lem (suc zero) h l k = ap (λ (m : ℕ). get_or one_points m origin) (sym (num_bits 1 l ∙ mod-eq_of_lt k))
small_point_lem (suc (suc zero)) h l k = refl
small_point_lem (suc (suc (suc zero))) h l k = ap (λ (m : ℕ). get_or three_points m origin) (sym (num_bits 3 l ∙ mod-eq_of_lt k))
small_point_lem (suc (suc (suc (suc zero)))) h l k = absurd (false≢true h)
small_point_lem (suc (suc (suc (suc (suc zero))))) h l k = refl
small_point_lem (suc (suc (suc (suc (suc (suc b)))))) h l k = absurd (false≢true (sym (from_four (suc (suc (suc (suc (suc (suc b)))))) (omega arith) (λ e. omega arith)) ∙ h))

-- where the points agree, looking through them finds document 01's label
search_label : (b : ℕ) (f : ℕ → Point) → ((l : ℕ) → l < 2 ^ b → f l ≡ point_of b (bits b l)) → (p : Point)
    → first (λ l. same_point (f l) p) (2 ^ b) ≡ label_number (label_of b p)
search_label b f same p = go (first test (2 ^ b)) refl (label_of b p) refl
  where
    test : ℕ → Bool
    test l = same_point (f l) p

    found : (j : ℕ) → first test (2 ^ b) ≡ Some j → (j < 2 ^ b) × (point_of b (bits b j) ≡ p)
    found j e = let h = first_found test (2 ^ b) j e in (h.0, sym (same j h.0) ∙ same_point→eq (f j) p h.1)

    go : (g : Option ℕ) → first test (2 ^ b) ≡ g → (o : Option (List Bool)) → label_of b p ≡ o → g ≡ label_number o
    go (Some j) d (Some v) e =
        let h = found j d in
        let q = point_label b p v e in
        let i : bits b j ≡ v = point_inj b (bits b j) v (length_bits b j) q.0 (h.1 ∙ sym q.1) in
        ap Some (sym (mod-eq_of_lt h.0) ∙ sym (num_bits b j) ∙ ap num i)
    go (Some j) d None e =
        let h = found j d in
        absurd (none_some (bits b j) (sym e ∙ ap (label_of b) (sym h.1) ∙ label_point b (bits b j) (length_bits b j)))
    go None d (Some v) e =
        let q = point_label b p v e in
        let l : num v < 2 ^ b = rw q.0 at (num_lt v) in
        let i : f (num v) ≡ p = same (num v) l ∙ ap (point_of b) (rw q.0 at (bits_num v)) ∙ q.1 in
        absurd (false≢true (sym (first_no test (2 ^ b) d (num v) l) ∙ ap (λ (z : Point). same_point z p) i ∙ same_point_self p))
    go None d None e = refl

-- ---- how the plain rule goes on

pub small_points : (b : ℕ) → smallest b ≡ true → (l : ℕ) → plain_point b l ≡ small_point b l
unfolding plain_point
small_points zero h l = absurd (false≢true h)
small_points (suc zero) h l = refl
small_points (suc (suc b)) h l = rw h

pub larger_points : (b : ℕ) → smallest (suc (suc b)) ≡ false → (l : ℕ) → plain_point (suc (suc b)) l ≡ in_block (l % 4) (block_corner (plain_point b (l / 4)))
unfolding plain_point
larger_points b h l = rw h

pub small_labels : (b : ℕ) → smallest b ≡ true → (p : Point) → plain_label b p ≡ small_label b p
unfolding plain_label
small_labels zero h p = absurd (false≢true h)
small_labels (suc zero) h p = refl
small_labels (suc (suc b)) h p = rw h

pub larger_labels : (b : ℕ) → smallest (suc (suc b)) ≡ false → (p : Point)
    → plain_label (suc (suc b)) p ≡ fourfold (plain_label b (of_block (corner_of p))) (low_label p)
unfolding plain_label
larger_labels b h p = rw h

-- ---- the step, for each direction

step_points : (b : ℕ) → smallest (suc (suc b)) ≡ false → Agrees b → (l : ℕ) → l < 2 ^ suc (suc b) → plain_point (suc (suc b)) l ≡ point_of (suc (suc b)) (bits (suc (suc b)) l)
unfolding bits
step_points b h ih l k =
    let e : l / 2 / 2 ≡ l / 4 = omega arith in
    let v : List Bool = bits b (l / 2 / 2) in
    let n : length v ≡ b = length_bits b (l / 2 / 2) in
    let w : l % 4 ≡ low_place (odd l) (odd (l / 2)) = omega (arith, weight_odd l, weight_odd (l / 2)) in
    let p : l / 4 < 2 ^ b = omega (arith, pow-suc 2 b, pow-suc 2 (suc b)) in
    let g : Block b (odd l) (odd (l / 2)) v = rw n at (block (odd l) (odd (l / 2)) v (rw n h)) in
    larger_points b h l
    ∙ ap₂ (λ (m : ℕ) (q : Point). in_block m (block_corner q)) w (ih.points (l / 4) p ∙ ap (λ (m : ℕ). point_of b (bits b m)) (sym e))
    ∙ sym g.is

-- the label of a point of the block, from that of its corner
low_label_lem : (b : ℕ) (a c : Bool) (v : List Bool) → Block b a c v → low_label (point_of (suc (suc b)) (a ∷ c ∷ v)) ≡ Some (low_place a c)
low_label_lem b a c v g = rw (g.at, g.is) (low_place_lem a c (block_corner (point_of b v)))

place_bits : (k : ℕ) → k < 4 → (a : Bool) × (c : Bool) × (low_place a c ≡ k)
unfolding weight
place_bits zero h = (false, false, refl)
place_bits (suc zero) h = (true, false, refl)
place_bits (suc (suc zero)) h = (false, true, refl)
place_bits (suc (suc (suc zero))) h = (true, true, refl)
place_bits (suc (suc (suc (suc k)))) h = absurd (omega arith)

number_label : (o : Option (List Bool)) (n : ℕ) → label_number o ≡ Some n → (v : List Bool) × (o ≡ Some v)
number_label (Some v) n e = (v, refl)
number_label None n e = absurd (found_not (sym e))

module _ (b : ℕ) (h : smallest (suc (suc b)) ≡ false) (ih : (p : Point) → plain_label b p ≡ label_number (label_of b p)) (p : Point) where
  block_at : (a c : Bool) (v : List Bool) → length v ≡ b → Block b a c v
  block_at a c v n = rw n at (block a c v (rw n h))

  -- where document 01 has a label,
  labelled : (w : List Bool) → length w ≡ suc (suc b) → point_of (suc (suc b)) w ≡ p → fourfold (plain_label b (of_block (corner_of p))) (low_label p) ≡ Some (num w)
  unfolding num
  labelled [] n e = absurd (omega arith)
  labelled (a ∷ []) n e = absurd (omega arith)
  labelled (a ∷ c ∷ v) n e =
      let m : length v ≡ b = omega arith in
      let g = block_at a c v m in
      let q : of_block (corner_of p) ≡ point_of b v = ap (λ (z : Point). of_block (corner_of z)) (sym e) ∙ ap of_block g.at ∙ of_corner (point_of b v) in
      let i : plain_label b (of_block (corner_of p)) ≡ Some (num v) = ap (plain_label b) q ∙ ih (point_of b v) ∙ ap label_number (label_point b v m) in
      let j : low_label p ≡ Some (low_place a c) = ap low_label (sym e) ∙ low_label_lem b a c v g in
      ap₂ fourfold i j ∙ ap Some (omega arith)

  -- and where it has none
  unlabelled : (f low : Option ℕ) → plain_label b (of_block (corner_of p)) ≡ f → low_label p ≡ low → label_of (suc (suc b)) p ≡ None → fourfold f low ≡ None
  unlabelled None low d e o = refl
  unlabelled (Some n) None d e o = refl
  unlabelled (Some n) (Some k) d e o =
      let v = number_label (label_of b (of_block (corner_of p))) n (sym (ih (of_block (corner_of p))) ∙ d) in
      let q = point_label b (of_block (corner_of p)) v.0 v.1 in
      let low = first_found (λ j. same_point (in_block j (corner_of p)) p) 4 k e in
      let z = place_bits k low.0 in
      let i : point_of (suc (suc b)) (z.0 ∷ z.1 ∷ v.0) ≡ p =
      (block_at z.0 z.1 v.0 q.0).is
      ∙ ap₂ (λ (m : ℕ) (r : Point). in_block m (block_corner r)) z.2 q.1
      ∙ ap (in_block k) (corner_of_lem p) ∙ same_point→eq (in_block k (corner_of p)) p low.1 in
      absurd (none_some (z.0 ∷ z.1 ∷ v.0) (sym o ∙ ap (label_of (suc (suc b))) (sym i) ∙ label_point (suc (suc b)) (z.0 ∷ z.1 ∷ v.0) (omega (arith, q.0))))

step_labels : (b : ℕ) → smallest (suc (suc b)) ≡ false → Agrees b → (p : Point) → plain_label (suc (suc b)) p ≡ label_number (label_of (suc (suc b)) p)
step_labels b h ih p = larger_labels b h p ∙ go (label_of (suc (suc b)) p) refl
  where
    go : (o : Option (List Bool)) → label_of (suc (suc b)) p ≡ o → fourfold (plain_label b (of_block (corner_of p))) (low_label p) ≡ label_number o
    go (Some w) e = let q = point_label (suc (suc b)) p w e in labelled b h ih.labels p w q.0 q.1
    go None e = unlabelled b h ih.labels p (plain_label b (of_block (corner_of p))) (low_label p) refl refl e

-- ---- the induction over the bit count

small_agrees : (b : ℕ) → smallest b ≡ true → Agrees b
small_agrees b h = record {
  points = λ l k. small_points b h l ∙ small_point_lem b h l k;
  labels = λ p. small_labels b h p ∙ search_label b (small_point b) (small_point_lem b h) p;
}

step_agrees : (b : ℕ) → smallest (suc (suc b)) ≡ false → Agrees b → Agrees (suc (suc b))
step_agrees b h ih = record { points = step_points b h ih; labels = step_labels b h ih }

agree : (b : ℕ) → 1 ≤ b → Agrees b
agree zero h = absurd (omega arith)
agree (suc zero) h = small_agrees 1 refl
agree (suc (suc zero)) h = small_agrees 2 refl
agree (suc (suc (suc zero))) h = small_agrees 3 refl
agree (suc (suc (suc (suc zero)))) h = step_agrees 2 refl (agree (suc (suc zero)) (omega arith))
agree (suc (suc (suc (suc (suc zero))))) h = small_agrees 5 refl
agree (suc (suc (suc (suc (suc (suc b)))))) h =
    step_agrees (suc (suc (suc (suc b)))) (from_four (suc (suc (suc (suc (suc (suc b)))))) (omega arith) (λ e. omega arith)) (agree (suc (suc (suc (suc b)))) (omega arith))

-- ---- the theorems

pub plain_point_lem : (b l : ℕ) → 1 ≤ b → l < 2 ^ b → plain_point b l ≡ point_of b (bits b l)
plain_point_lem b l h k = (agree b h).points l k

pub plain_label_lem : (b : ℕ) (p : Point) → 1 ≤ b → plain_label b p ≡ label_number (label_of b p)
plain_label_lem b p h = (agree b h).labels p

counted : (b : ℕ) → bit_count_test b ≡ false → 1 ≤ b
counted b t = ltb-false b 1 (or-false (ltb b 1) (ltb 15 b) t).0

pub plain_map_lem : (b l : ℕ) → plain_map b l ≡ map_label b l
unfolding plain_map map_label
plain_map_lem b l = go (label_test b l) refl
  where
    go : (c : Bool) → label_test b l ≡ c → cond c (tone_refused 16) (tone_done (plain_point b l)) ≡ cond c (tone_refused 16) (tone_done (point_of b (bits b l)))
    go true t = refl
    go false t =
        let h = or-false (bit_count_test b) (leb (2 ^ b) l) t in
        ap tone_done (plain_point_lem b l (counted b h.0) (leb-false (2 ^ b) l h.1))

found_label : (o : Option (List Bool)) → plain_found (label_number o) ≡ label_found o
found_label (Some v) = refl
found_label None = refl

pub plain_read_lem : (b : ℕ) (p : Point) → plain_read b p ≡ read_point b p
unfolding plain_read read_point
plain_read_lem b p = go (bit_count_test b) refl
  where
    go : (c : Bool) → bit_count_test b ≡ c → cond c (tone_refused 16) (plain_found (plain_label b p)) ≡ cond c (tone_refused 16) (label_found (label_of b p))
    go true t = refl
    go false t = ap plain_found (plain_label_lem b p (counted b t)) ∙ found_label (label_of b p)
