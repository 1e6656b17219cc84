-- Wrong bits counted in lanes: one byte more of a row, a row at its end, and the sum of the lanes after the last row.
use Prim.Native.Nat.{ℕ, zero, suc, ◌+◌, ◌*◌, ◌≤◌, ◌<◌}
use mathlib.Core.Bool.{Bool, true, false}
use mathlib.Core.List.{List, [], ◌∷◌}
use mathlib.Core.Path.{◌≡◌, refl, sym, ap, ◌∙◌}
use native.Mathlib.Nat.{suc-mul, add-zero}
use native.Mathlib.Omega.{arith}
use borrow.Author.Tests.{ltb-true, ltb-false}
use lib.Bits.{bit_xor}
use lib.Count.{ones}
use lib.Dec.{ltb}
use lib.ListN.{length, take, drop, get_or, set, replicate, length-set, length-replicate, take-append-drop, get_or-eq_default}
use lib.Seq.{take_all, get_or-set_other, get_or-drop}
use Rattle.g9932.specs.Order.{sum}
use Rattle.g9932.proofs.Counts.{sum_append, sum_replicate}
use Rattle.tally.specs.Lanes.{lane_count, AtMost, Rows}
use Rattle.tally.specs.PairReport.{wrong_bits}

-- ---- sums

pub sum_set : (l : List ℕ) (j v : ℕ) → j < length l → sum (set l j (get_or l j 0 + v)) ≡ sum l + v
sum_set [] j v h = absurd (omega arith)
sum_set (x ∷ l) zero v h = omega arith
sum_set (x ∷ l) (suc j) v h = omega (arith, sum_set l j v (omega arith))

pub sum_suc : (l : List ℕ) (j : ℕ) → j < length l → sum (take (suc j) l) ≡ sum (take j l) + get_or l j 0
sum_suc [] j h = absurd (omega arith)
sum_suc (x ∷ l) zero h = omega arith
sum_suc (x ∷ l) (suc j) h = omega (arith, sum_suc l j (omega arith))

sum_zero : (l : List ℕ) → ((j : ℕ) → get_or l j 0 ≡ 0) → sum l ≡ 0
sum_zero [] z = refl
sum_zero (x ∷ l) z = omega (arith, z 0, sum_zero l (λ j. z (suc j)))

-- what is 0 does not count
pub sum_used : (l : List ℕ) (n : ℕ) → ((j : ℕ) → n ≤ j → get_or l j 0 ≡ 0) → sum (take n l) ≡ sum l
sum_used l n z =
    let rest : sum (drop n l) ≡ 0 = sum_zero (drop n l) (λ j. get_or-drop n l j 0 ∙ z (n + j) (omega arith)) in
    let whole : sum (take n l) + sum (drop n l) ≡ sum l = sym (sum_append (take n l) (drop n l)) ∙ ap sum (take-append-drop n l) in
    omega (arith, rest, whole)

sum_most : (l : List ℕ) (j k : ℕ) → AtMost k l → sum (take j l) ≤ j * k
sum_most l zero k m = omega arith
sum_most [] (suc j) k m = omega arith
sum_most (x ∷ l) (suc j) k m = omega (arith, suc-mul j k, m 0, sum_most l j k (λ i. m (suc i)))

-- 256 lanes of at most 248 have room in sixteen bits
pub sum_fits_lem : (l : List ℕ) (j : ℕ) → j ≤ lane_count → AtMost 248 l → sum (take j l) ≤ 63488
sum_fits_lem l j h m = omega (arith, sum_most l j 248 m)

-- ---- one byte more

pub wrong_suc : (s r : List ℕ) (k : ℕ) → k < length s → length r ≡ length s
    → wrong_bits (take (suc k) s) (take (suc k) r) ≡ wrong_bits (take k s) (take k r) + ones (bit_xor (get_or s k 0) (get_or r k 0))
unfolding wrong_bits
wrong_suc [] r k h e = absurd (omega arith)
wrong_suc (x ∷ s) [] k h e = absurd (omega arith)
wrong_suc (x ∷ s) (y ∷ r) zero h e = omega arith
wrong_suc (x ∷ s) (y ∷ r) (suc k) h e = omega (arith, wrong_suc s r k (omega arith) (omega arith))

-- a whole frame
pub wrong_all : (s r : List ℕ) (n : ℕ) → length r ≡ length s → length s ≤ n → wrong_bits (take n s) (take n r) ≡ wrong_bits s r
wrong_all s r n e h = rw (take_all n s h, take_all n r (omega arith))

-- j bytes of row `row` are counted: their lanes have room for them, the others are as they were
pub record Part (s r : List ℕ) (row j : ℕ) (lanes : List ℕ) : Type 0 where
  pub length_is : length lanes ≡ lane_count
  pub unused : (i : ℕ) → length s ≤ i → get_or lanes i 0 ≡ 0
  pub small : AtMost (8 * row + 8) lanes
  pub ahead : (i : ℕ) → j ≤ i → get_or lanes i 0 ≤ 8 * row
  pub total : sum lanes ≡ wrong_bits (take (lane_count * row + j) s) (take (lane_count * row + j) r)

set_most : (l : List ℕ) (j v k : ℕ) → v ≤ k → AtMost k l → AtMost k (set l j v)
set_most [] j v k h m i = omega arith
set_most (x ∷ l) zero v k h m zero = h
set_most (x ∷ l) zero v k h m (suc i) = m (suc i)
set_most (x ∷ l) (suc j) v k h m zero = m 0
set_most (x ∷ l) (suc j) v k h m (suc i) = set_most l j v k h (λ n. m (suc n)) i

module _ {s r : List ℕ} {row : ℕ} {lanes : List ℕ} where
  pub part_begin : Rows s r row lanes → Part s r row 0 lanes
  part_begin p =
      record {
        length_is = p.length_is;
        unused = p.unused;
        small = λ i. omega (arith, p.small i);
        ahead = λ i h. p.small i;
        total = p.total ∙ ap (λ (n : ℕ). wrong_bits (take n s) (take n r)) (sym (add-zero (lane_count * row)));
      }

  pub part_more : {j v : ℕ} → Part s r row j lanes → length r ≡ length s → lane_count * row + j < length s → j < lane_count
      → v ≡ ones (bit_xor (get_or s (lane_count * row + j) 0) (get_or r (lane_count * row + j) 0)) → v ≤ 8
      → Part s r row (j + 1) (set lanes j (get_or lanes j 0 + v))
  part_more {j} {v} p e h k o most =
      let other : (i : ℕ) → j < i → get_or (set lanes j (get_or lanes j 0 + v)) i 0 ≡ get_or lanes i 0 =
      λ i n. get_or-set_other lanes j i (get_or lanes j 0 + v) 0 (λ q. omega (arith, q)) in
      let next : suc (lane_count * row + j) ≡ lane_count * row + (j + 1) = omega arith in
      record {
        length_is = length-set lanes j (get_or lanes j 0 + v) ∙ p.length_is;
        unused = λ i n. other i (omega arith) ∙ p.unused i n;
        small = set_most lanes j (get_or lanes j 0 + v) (8 * row + 8) (omega (arith, p.ahead j (omega arith))) p.small;
        ahead = λ i n. omega (arith, other i (omega arith), p.ahead i (omega arith));
        total =
            sum_set lanes j v (omega (arith, p.length_is)) ∙ rw (p.total, o) (sym (wrong_suc s r (lane_count * row + j) h e))
            ∙ ap (λ (n : ℕ). wrong_bits (take n s) (take n r)) next;
      }

  -- the row is at its end, or the frame is
  pub part_end : {j : ℕ} → Part s r row j lanes → length r ≡ length s → (j < lane_count → lane_count * row + j ≡ length s) → j ≤ lane_count
      → Rows s r (row + 1) lanes
  part_end {j} p e end most =
      record {
        length_is = p.length_is;
        unused = p.unused;
        small = λ i. omega (arith, p.small i);
        total = p.total ∙ go (ltb j lane_count) refl;
      }
    where
      counted : ℕ → ℕ
      counted n = wrong_bits (take n s) (take n r)

      go : (b : Bool) → ltb j lane_count ≡ b → counted (lane_count * row + j) ≡ counted (lane_count * (row + 1))
      go true q =
          let n = end (ltb-true j lane_count q) in
          wrong_all s r (lane_count * row + j) e (omega arith) ∙ sym (wrong_all s r (lane_count * (row + 1)) e (omega arith))
      go false q =
          let n : lane_count * row + j ≡ lane_count * (row + 1) = omega (arith, ltb-false j lane_count q) in
          ap counted n

-- ---- all rows

abbrev zero_lanes : ℕ → List ℕ
zero_lanes n = replicate n 0

zero_lanes_lem : (n j : ℕ) → get_or (zero_lanes n) j 0 ≡ 0
zero_lanes_lem zero j = refl
zero_lanes_lem (suc n) zero = refl
zero_lanes_lem (suc n) (suc j) = zero_lanes_lem n j

-- before the first row
pub rows_none : (s r : List ℕ) → Rows s r 0 (zero_lanes lane_count)
unfolding wrong_bits
rows_none s r =
    record {
      length_is = length-replicate {A = ℕ} lane_count 0;
      unused = λ j h. zero_lanes_lem lane_count j;
      small = λ j. omega (arith, zero_lanes_lem lane_count j);
      total = sum_replicate lane_count 0;
    }

module _ {s r : List ℕ} {row : ℕ} {lanes : List ℕ} (p : Rows s r row lanes) where
  -- no byte was counted in the lanes from n on, where n is a row's length
  pub rows_unused : (n : ℕ) → (n < lane_count → n ≡ length s) → (j : ℕ) → n ≤ j → get_or lanes j 0 ≡ 0
  rows_unused n e j h = go (ltb n lane_count) refl
    where
      go : (b : Bool) → ltb n lane_count ≡ b → get_or lanes j 0 ≡ 0
      go true q = p.unused j (omega (arith, e (ltb-true n lane_count q)))
      go false q = get_or-eq_default lanes 0 (omega (arith, ltb-false n lane_count q, p.length_is))

  pub rows_most : row ≤ 31 → AtMost 248 lanes
  rows_most h j = omega (arith, p.small j)

  pub rows_all : length r ≡ length s → length s ≤ lane_count * row → sum lanes ≡ wrong_bits s r
  rows_all e h = p.total ∙ wrong_all s r (lane_count * row) e h
