-- The one-tone calls: mapping and reading undo one another, labels on blocks of four, the second bits of the coordinates, and points turned by
-- quarters.
use Rattle.std.specs.Prelude.{Option, None, Some}
use Prim.Native.Nat.{ℕ, zero, suc, ◌+◌, ◌-◌, ◌*◌, ◌/◌, ◌%◌, ◌^◌, ◌≤◌, ◌<◌}
use mathlib.Core.Bool.{Bool, true, false, not, cond}
use mathlib.Core.List.{List, [], ◌∷◌, map}
use mathlib.Core.Logic.{◌≢◌}
use mathlib.Core.Path.{◌≡◌, refl, sym, ap, ◌∙◌}
use native.Mathlib.Nat.{pow-suc, mod-eq_of_lt}
use native.Mathlib.Omega.{arith}
use borrow.Author.Tests.{leb-false, lt-leb}
use lib.Dec.{leb}
use lib.IntN.{pos, neg_ℤ}
use lib.ListN.{length, drop}
use Rattle.g9932.specs.Bits.{bit, weight, num, odd, bits}
use Rattle.g9932.specs.Sizes.{Point}
use Rattle.g9932.specs.Refusals.{bit_count_test, label_test}
use Rattle.g9932.specs.Points.{sign_bit, twos_complement, point_of, label_of, negated, quarters, low_quarters}
use Rattle.g9932.specs.Plain.{block_corner, in_block, plain_point}
use Rattle.g9932.specs.Answers.{OneTone, tone_refused, tone_done, map_label, label_found, read_point}
use Rattle.g9932.proofs.Constellations.{axes_point, point_coords}
use Rattle.g9932.proofs.Coordinates.{coords, coords_low}
use Rattle.g9932.proofs.Identities.{or-false, not_not}
use Rattle.g9932.proofs.Labels.{point_label, label_point}
use Rattle.g9932.proofs.OneTone.{map_done}
use Rattle.g9932.proofs.Plain.{from_four, larger_points, plain_point_lem}
use Rattle.g9932.proofs.Quarters.{turned_label, length_turned, point_turned, point_opposite, one_left, one_right, lowest_turned}
use Rattle.g9932.proofs.TwosComplement.{num_not}
use Rattle.g9932.proofs.Words.{odd_weight, half_weight, num_bits, bits_num, length_bits, num_lt}
use Rattle.guarantees.specs.Words.{bit_one}

-- ---- what an answer of DONE says

record Maps (b l : ℕ) (p : Point) : Type 0 where
  counted : bit_count_test b ≡ false
  below : l < 2 ^ b
  is : point_of b (bits b l) ≡ p

maps : (b l : ℕ) (p : Point) → map_label b l ≡ tone_done p → Maps b l p
unfolding map_label
maps b l p = go (label_test b l) refl
  where
    go : (c : Bool) → label_test b l ≡ c → cond c (tone_refused 16) (tone_done (point_of b (bits b l))) ≡ tone_done p → Maps b l p
    go true t e = absurd (omega (arith, ap (λ (a : OneTone Point). a.number) e))
    go false t e =
        let h = or-false (bit_count_test b) (leb (2 ^ b) l) t in
        let v : Some (point_of b (bits b l)) ≡ Some p = ap (λ (a : OneTone Point). a.value) e in
        record { counted = h.0; below = leb-false (2 ^ b) l h.1; is = cc }

record Reads (b l : ℕ) (p : Point) : Type 0 where
  counted : bit_count_test b ≡ false
  label : List Bool
  labelled : label_of b p ≡ Some label
  is : num label ≡ l

reads : (b l : ℕ) (p : Point) → read_point b p ≡ tone_done l → Reads b l p
unfolding read_point
reads b l p = go (bit_count_test b) refl (label_of b p) refl
  where
    go : (c : Bool) → bit_count_test b ≡ c → (o : Option (List Bool)) → label_of b p ≡ o
        → cond c (tone_refused 16) (label_found o) ≡ tone_done l → Reads b l p
    go true t o f e = absurd (omega (arith, ap (λ (a : OneTone ℕ). a.number) e))
    go false t None f e = absurd (omega (arith, ap (λ (a : OneTone ℕ). a.number) e))
    go false t (Some v) f e =
        let w : Some (num v) ≡ Some l = ap (λ (a : OneTone ℕ). a.value) e in
        record { counted = t; label = v; labelled = f; is = cc }

-- ---- both ways

read_as_lem : (b : ℕ) (v : List Bool) (p : Point) → bit_count_test b ≡ false → length v ≡ b → point_of b v ≡ p → read_point b p ≡ tone_done (num v)
unfolding read_point
read_as_lem b v p t l e = rw (t, ← e, label_point b v l)

pub mapped_read : (b l : ℕ) (p : Point) → map_label b l ≡ tone_done p → read_point b p ≡ tone_done l
mapped_read b l p e =
    let m = maps b l p e in
    read_as_lem b (bits b l) p m.counted (length_bits b l) m.is ∙ ap tone_done (num_bits b l ∙ mod-eq_of_lt m.below)

number_below : (b l : ℕ) (v : List Bool) → length v ≡ b → num v ≡ l → l < 2 ^ b
number_below b l v h e = rw (← e, ← h) (num_lt v)

number_bits : (b l : ℕ) (v : List Bool) → length v ≡ b → num v ≡ l → bits b l ≡ v
number_bits b l v h e = rw (← e, ← h) (bits_num v)

pub labels_below : (b l : ℕ) (p : Point) → read_point b p ≡ tone_done l → l < 2 ^ b
labels_below b l p e =
    let r = reads b l p e in
    number_below b l r.label (point_label b p r.label r.labelled).0 r.is

pub read_mapped : (b l : ℕ) (p : Point) → read_point b p ≡ tone_done l → map_label b l ≡ tone_done p
unfolding map_label
read_mapped b l p e =
    let r = reads b l p e in
    let s = point_label b p r.label r.labelled in
    rw (r.counted, lt-leb (2 ^ b) l (labels_below b l p e), number_bits b l r.label s.0 r.is, s.1)

-- ---- a label's block, of 2 bits and of 4 to 13

pub block_of_four : (b n k : ℕ) (p : Point) → 2 ≤ b → b ≤ 13 → b ≢ 3 → k < 4 → map_label b n ≡ tone_done p
    → map_label (suc (suc b)) (4 * n + k) ≡ tone_done (in_block k (block_corner p))
block_of_four b n k p h most not_three small e =
    let m = maps b n p e in
    let fits : 4 * n + k < 2 ^ suc (suc b) = omega (arith, m.below, pow-suc 2 b, pow-suc 2 (suc b)) in
    let quarter : (4 * n + k) / 4 ≡ n = omega arith in
    let place : (4 * n + k) % 4 ≡ k = omega arith in
    let q : plain_point b n ≡ p = plain_point_lem b n (omega arith) m.below ∙ m.is in
    map_done (suc (suc b)) (4 * n + k) (omega arith) (omega arith) fits
    ∙ ap tone_done
    (sym (plain_point_lem (suc (suc b)) (4 * n + k) (omega arith) fits) ∙ larger_points b (from_four (suc (suc b)) (omega arith) (λ e. not_three (omega arith))) (4 * n + k) ∙ rw (quarter, place, q))

-- ---- the second bits of the coordinates

second_low : (x : Bool) (l : List Bool) → odd (num (true ∷ x ∷ l) / 2) ≡ x
unfolding num
second_low x l = rw (half_weight true (weight x + 2 * num l)) (odd_weight x (num l))

second_neg : (n : ℕ) (l : List Bool) (x : Bool) → n ≡ suc (num (false ∷ x ∷ l)) → bit_one (neg_ℤ (pos n)) ≡ not x
unfolding num
second_neg zero l x h = absurd (omega arith)
second_neg (suc n) l x h =
    let e : n ≡ weight false + 2 * (weight x + 2 * num l) = omega arith in
    rw (e, half_weight false (weight x + 2 * num l), odd_weight x (num l))

twos_second : (x : Bool) (l : List Bool) → bit_one (twos_complement (true ∷ x ∷ l)) ≡ x
unfolding twos_complement
twos_second x l = go (sign_bit (true ∷ x ∷ l))
  where
    go : (s : Bool) → bit_one (cond s (neg_ℤ (pos (2 ^ length (true ∷ x ∷ l) - num (true ∷ x ∷ l)))) (pos (num (true ∷ x ∷ l)))) ≡ x
    go true =
        second_neg (2 ^ length (true ∷ x ∷ l) - num (true ∷ x ∷ l)) (map not l) (not x) (omega (arith, num_not (true ∷ x ∷ l))) ∙ not_not x
    go false = second_low x l

point_second : (b : ℕ) (v : List Bool) → length v ≡ b → 2 ≤ b → (bit_one (point_of b v).px ≡ bit v 1) × (bit_one (point_of b v).py ≡ bit v 0)
point_second b [] l h = absurd (omega arith)
point_second b (x ∷ []) l h = absurd (omega arith)
point_second b (x ∷ y ∷ v) l h =
    let e : point_of b (x ∷ y ∷ v) ≡ axes_point (coords (x ∷ y ∷ v)) = rw l at (point_coords (x ∷ y ∷ v)) in
    let c = coords_low x y v in (
      ap (λ (p : Point). bit_one p.px) e ∙ ap (λ (z : List Bool). bit_one (twos_complement (true ∷ z))) c.0 ∙ twos_second y (drop 1 (coords (x ∷ y ∷ v)).xs),
      ap (λ (p : Point). bit_one p.py) e ∙ ap (λ (z : List Bool). bit_one (twos_complement (true ∷ z))) c.1 ∙ twos_second x (drop 1 (coords (x ∷ y ∷ v)).ys),
    )

pub low_bits_lem : (b l : ℕ) (p : Point) → 2 ≤ b → map_label b l ≡ tone_done p
    → (bit_one p.px ≡ bit (bits b l) 1) × (bit_one p.py ≡ bit (bits b l) 0)
low_bits_lem b l p h e =
    let m = maps b l p e in
    let s = point_second b (bits b l) (length_bits b l) h in
    rw (← m.is) s

-- ---- points turned by quarters

-- from 2 bits on they are read as the turned label,
read_turned : (n b l : ℕ) (p : Point) → 2 ≤ b → map_label b l ≡ tone_done p → read_point b (quarters n p) ≡ tone_done (num (turned_label n (bits b l)))
read_turned n b l p h e =
    let m = maps b l p e in
    read_as_lem b (turned_label n (bits b l)) (quarters n p) m.counted (length_turned n (bits b l) ∙ length_bits b l)
    (sym (point_turned n b (bits b l) h (length_bits b l)) ∙ ap (quarters n) m.is)

pub turned_lowest : (n b l : ℕ) (p : Point) → 2 ≤ b → map_label b l ≡ tone_done p
    → (m : ℕ) × (read_point b (quarters n p) ≡ tone_done m)
    × (bit (bits b m) 0 ≡ (low_quarters n (bit (bits b l) 0) (bit (bits b l) 1)).0) × (bit (bits b m) 1 ≡ (low_quarters n (bit (bits b l) 0) (bit (bits b l) 1)).1)
turned_lowest n b l p h e =
    let v : List Bool = bits b l in
    let w : bits b (num (turned_label n v)) ≡ turned_label n v = number_bits b (num (turned_label n v)) (turned_label n v) (length_turned n v ∙ length_bits b l) refl in
    let t = lowest_turned n v (rw (length_bits b l) h) in
    (num (turned_label n v), read_turned n b l p h e, ap (λ (z : List Bool). bit z 0) w ∙ t.0, ap (λ (z : List Bool). bit z 1) w ∙ t.1)

-- and a 1-bit point as the other label after half a turn,
one_opposite : (l : ℕ) → l < 2 → num (turned_label 2 (bits 1 l)) ≡ 1 - l
unfolding num weight bits odd
one_opposite zero h = refl
one_opposite (suc zero) h = refl
one_opposite (suc (suc l)) h = absurd (omega arith)

pub opposite_one : (l : ℕ) (p : Point) → map_label 1 l ≡ tone_done p → read_point 1 (negated p) ≡ tone_done (1 - l)
opposite_one l p e =
    let m = maps 1 l p e in
    read_as_lem 1 (turned_label 2 (bits 1 l)) (negated p) m.counted (length_turned 2 (bits 1 l) ∙ length_bits 1 l)
    (sym (point_opposite 1 (bits 1 l) (omega arith) (length_bits 1 l)) ∙ ap negated m.is)
    ∙ ap tone_done (one_opposite l m.below)

-- and as none after a quarter, either way
off_one : (n l : ℕ) (p : Point) → ((v : List Bool) → length v ≡ 1 → label_of 1 (quarters n (point_of 1 v)) ≡ None) → map_label 1 l ≡ tone_done p
    → read_point 1 (quarters n p) ≡ tone_refused 13
unfolding read_point
off_one n l p law e = let m = maps 1 l p e in rw (← m.is, law (bits 1 l) (length_bits 1 l))

pub quarter_one : (l : ℕ) (p : Point) → map_label 1 l ≡ tone_done p → (read_point 1 (quarters 1 p) ≡ tone_refused 13) × (read_point 1 (quarters 3 p) ≡ tone_refused 13)
quarter_one l p e = (off_one 1 l p one_left e, off_one 3 l p one_right e)
