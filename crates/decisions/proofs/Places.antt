-- The loops over the places: what each step adds.
use Prim.Native.Nat.{ℕ, ◌+◌, ◌%◌, ◌^◌, ◌≤◌, ◌<◌}
use mathlib.Core.Bool.{Bool, true, false, false≢true}
use mathlib.Core.Logic.{◌⊎◌, inl, inr}
use Rattle.std.specs.Prelude.{Option, Some}
use Rattle.std.specs.Option.{option_map, unwrap_or, is_some}
use Rattle.g9932.specs.Bits.{num, bits}
use Rattle.g9932.specs.Points.{label_of}
use Rattle.g9932.proofs.Words.{num_lt, bits_num}
use lib.Dec.{eqb}
use borrow.Author.Tests.{eqb-true, eqb-false}
use Rattle.constellation.specs.Layouts.{layout_of}
use mathlib.Core.List.{List}
use mathlib.Core.Path.{◌≡◌, refl, sym, ap, ◌∙◌}
use native.Mathlib.Numerals.{add-one}
use native.Mathlib.Omega.{arith}
use borrow.Author.Count.{below_more}
use lib.IntN.{ℤ, pos}
use lib.ListN.{length, get_or, set, drop, length-set, drop_of_length-le}
use lib.Seq.{drop-cons, get_or-set_same, get_or-set_other}
use Rattle.cosets.proofs.Shapes.{not_one}
use Rattle.cosets.specs.Meters.{CostsBy, PointBy, LabelOf, LeastCoset}
use Rattle.cosets.specs.Nearest.{IsReceived}
use Rattle.cosets.specs.declared.Coset.{Coset}
use Rattle.cosets.specs.declared.Costs.{Costs}
use Rattle.cosets.specs.declared.given.Received.{Received}
use Rattle.g9932.specs.Sizes.{entry, Point, point, origin, point_at}
use Rattle.mapper.specs.Reading.{LabelIs, Off, DemapsAll}
use Rattle.decisions.specs.CostLists.{costs_of, KeptFrom, PutsCosts, PutsLeast, CosetsKept}
use Rattle.decisions.specs.declared.cost_lists.CostLists.{CostLists}
use Rattle.decisions.specs.Deciding.{PlaceCosts, Costed, PlacePoint, PlacePoints, PutsLabels, PlaceLabels, LeastAt, LeastPlaces, total_at}

-- ---- costs

pub costs_of_lem : {layout : ℕ} {p : Point} {s : Received} {r : Costs} → IsReceived p s → CostsBy layout s r → PlaceCosts layout p r
costs_of_lem {p = p} i c = record { tone = λ b l m e. c.tone b l m e p i; one = λ e. c.one e p i; small = c.small }

module _ {layouts : List ℕ} {q : List Point} {ks : CostLists} {i : ℕ} (old : Costed layouts q ks i) where
  pub costed_more : {r : Costs} {after : CostLists} → PutsCosts ks i r after → PlaceCosts (entry layouts i) (get_or q i origin) r → Costed layouts q after (i + 1)
  costed_more {r} {after} p c =
      record {
        costs = below_more (λ j. PlaceCosts (entry layouts j) (get_or q j origin) (costs_of after j)) i
            (λ j l. rw (p.others j (λ e. omega (arith, e))) (old.costs j l)) (rw p.here c);
      }

-- what is put at a place leaves the costs behind it
pub kept_more : (ks : CostLists) {mid after : CostLists} {i : ℕ} {r : Costs} → KeptFrom ks i mid → PutsCosts mid i r after → KeptFrom ks (i + 1) after
kept_more ks old p = λ j l. p.others j (λ e. omega (arith, e)) ∙ old j (omega arith)

-- ---- labels

pub point_of_lem : {layout low : ℕ} {p n : Point} {s : Received} → IsReceived p s → PointBy layout s low n → PlacePoint layout p low n
point_of_lem {p = p} i c = λ b l m e. c.tone b l m e p i

module _ {layouts : List ℕ} {q : List Point} {lows : List ℕ} {near_xs near_ys : List ℤ} {i : ℕ} (old : PlacePoints layouts q lows near_xs near_ys i) where
  pub points_more : (x y : ℤ) → i < length lows → PlacePoint (entry layouts i) (get_or q i origin) (entry lows i % 4) (point x y)
      → PlacePoints layouts q lows (set near_xs i x) (set near_ys i y) (i + 1)
  points_more x y h c =
      record {
        near = below_more has i before here;
        xs_length = length-set near_xs i x ∙ old.xs_length;
        ys_length = length-set near_ys i y ∙ old.ys_length;
      }
    where
      has : ℕ → Type 0
      has j = PlacePoint (entry layouts j) (get_or q j origin) (entry lows j % 4) (point_at (set near_xs i x) (set near_ys i y) j)

      here : has i
      here = rw (get_or-set_same near_xs i x (pos 0) (omega (arith, old.xs_length)), get_or-set_same near_ys i y (pos 0) (omega (arith, old.ys_length))) c

      before : (j : ℕ) → j < i → has j
      before j k =
          let n : (j ≡ i → ⊥) = λ e. absurd (omega arith) in
          rw (get_or-set_other near_xs i j x (pos 0) n, get_or-set_other near_ys i j y (pos 0) n) (old.near j k)

module _ {layouts found lows labels : List ℕ} {i : ℕ} (old : PutsLabels layouts found lows labels i) where
  pub puts_more : {l : ℕ} → i < length lows → LabelOf (entry layouts i) (entry found i) (entry labels i % 4) l → PutsLabels layouts found lows (set labels i l) (i + 1)
  puts_more {l} h c =
      record {
        put = below_more has i (λ j k. rw (get_or-set_other labels i j l 0 (λ z. omega (arith, k, z))) (old.put j k))
            (rw (get_or-set_same labels i l 0 (omega (arith, old.labels_length)), ← old.kept i (omega arith)) c);
        kept = λ j k. get_or-set_other labels i j l 0 (λ z. omega (arith, k, z)) ∙ old.kept j (omega arith);
        labels_length = length-set labels i l ∙ old.labels_length;
      }
    where
      has : ℕ → Type 0
      has j = LabelOf (entry layouts j) (entry found j) (entry lows j % 4) (entry (set labels i l) j)

-- the label that is told of a point that has one
told_label : {layout l b : ℕ} {q : Point} {v : List Bool} → LabelIs layout q l ⊎ Off layout q → 1 ≤ b → b ≤ 15 → layout ≡ layout_of b → label_of b q ≡ Some v → length v ≡ b
    → (l < 2 ^ b) × (bits b l ≡ v)
told_label {l = l} {b = b} {v = v} (inl d) h k e is n =
    let m : l ≡ num v = ap (λ (o : Option ℕ). unwrap_or o 0) (d.sought b h k e ∙ ap (option_map num) is) in
    (rw m (rw n at (num_lt v)), rw m (rw n at (bits_num v)))
told_label {b = b} (inr d) h k e is n = absurd (false≢true (ap is_some (d.sought b h k e ∙ ap (option_map num) is)))

-- the labels that are found for nearest points are nearest labels
pub labels_are_lem : {layouts : List ℕ} {q : List Point} {lows found labels : List ℕ} {near_xs near_ys : List ℤ} {all : Bool} {n : ℕ} → length layouts ≡ n → length near_xs ≡ n
    → PlacePoints layouts q lows near_xs near_ys n → DemapsAll layouts near_xs near_ys found all → PutsLabels layouts found lows labels (length layouts) → PlaceLabels layouts q lows labels n
labels_are_lem {layouts} k m p d l =
    record {
      labelled = λ i h.
          record {
            tone = λ b lb mb e.
                let near = p.near i h b lb mb e in
                let t = told_label (d.each i (omega arith)) (omega arith) mb e near.1 near.2.size in
                rw ((l.put i (omega arith)).tone (λ z. not_one b (entry layouts i) lb mb e z), t.1) (t.0, near.2);
            one = (l.put i (omega arith)).one;
          };
      labels_length = l.labels_length;
    }

-- ---- uncoded: the nearest coset of every place, and the total

-- the least cost is at most that of the first coset
pub least_small : {layout : ℕ} {c : Costs} {r : Coset} → LeastCoset layout c r → r.cost ≤ c.c0
least_small {layout} {c} {r} l = go (eqb layout (layout_of 1)) refl
  where
    go : (b : Bool) → eqb layout (layout_of 1) ≡ b → r.cost ≤ c.c0
    go true e = (l.one (eqb-true layout (layout_of 1) e)).least 0 (omega arith)
    go false e = (l.tone (eqb-false layout (layout_of 1) e)).least 0 (omega arith)

module _ {layouts : List ℕ} {ks : CostLists} {lows : List ℕ} {mid : CostLists} {i : ℕ} (old : LeastPlaces layouts ks lows mid i) where
  pub least_more : {r : Coset} {after : CostLists} → i < length layouts → LeastCoset (entry layouts i) (costs_of mid i) r → PutsLeast mid i r.cost after
      → LeastPlaces layouts ks (set lows i r.low) after (i + 1)
  least_more {r} {after} h c p =
      record {
        least = below_more has i (λ j l. let n : j ≡ i → ⊥ = λ e. omega (arith, e) in rw (ap first_of (p.others j n), get_or-set_other lows i j r.low 0 n) (old.least j l))
            (rw (p.here, get_or-set_same lows i r.low 0 (omega (arith, old.lows_length)), ← (old.kept i (omega arith))) c);
        kept = λ j l. p.others j (λ e. omega (arith, e)) ∙ old.kept j (omega arith);
        lows_length = length-set lows i r.low ∙ old.lows_length;
      }
    where
      has : ℕ → Type 0
      has j = LeastAt layouts ks (set lows i r.low) after.c0 j

      first_of : Costs → ℕ
      first_of r = r.c0

pub cosets_again : {ks mid after : CostLists} → CosetsKept ks mid → CosetsKept mid after → CosetsKept ks after
cosets_again k l = record { c1_is = l.c1_is ∙ k.c1_is; c2_is = l.c2_is ∙ k.c2_is; c3_is = l.c3_is ∙ k.c3_is }

pub total_more : (costs ps : List ℕ) (k n p c : ℕ) → k < length ps → p ≡ entry ps k → c ≡ entry costs p → n + total_at costs (drop k ps) ≡ total_at costs ps → n + c + total_at costs (drop (k + 1) ps) ≡ total_at costs ps
total_more costs ps k n p c h at is old =
    let cut : total_at costs (drop k ps) ≡ entry costs (entry ps k) + total_at costs (drop (k + 1) ps) = ap (total_at costs) (drop-cons ps k 0 h) ∙ ap (λ (z : ℕ). entry costs (entry ps k) + total_at costs (drop z ps)) (sym (add-one k)) in
    let e : c ≡ entry costs (entry ps k) = is ∙ ap (entry costs) at in
    omega (arith, cut, e, old)

pub total_all : (costs ps : List ℕ) (k n : ℕ) → length ps ≤ k → n + total_at costs (drop k ps) ≡ total_at costs ps → n ≡ total_at costs ps
total_all costs ps k n h old =
    let e : total_at costs (drop k ps) ≡ 0 = ap (total_at costs) (drop_of_length-le ps {i = k} h) in
    omega (arith, e, old)
