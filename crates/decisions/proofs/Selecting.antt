-- Add, compare and select over the pairs of the entries, from the last to the first.
use Prim.Native.Nat.{ℕ, zero, suc, ◌+◌, ◌-◌, ◌*◌, ◌/◌, ◌%◌, ◌^◌, ◌≤◌, ◌<◌}
use mathlib.Core.Bool.{Bool, true, false}
use mathlib.Core.List.{List, [], ◌∷◌}
use mathlib.Core.Path.{◌≡◌, refl, sym, ap, subst, ◌∙◌}
use native.Mathlib.Omega.{arith}
use borrow.Author.Tests.{lt-ltb, le-ltb, eq-eqb, ne_eqb}
use lib.Dec.{ltb}
use lib.ListN.{length, get_or, drop, replicate, length-drop, drop_of_length-le}
use lib.Seq.{drop-cons}
use Rattle.cosets.specs.Meters.{Meter, cost_of, LeastOf, shared_costs}
use Rattle.cosets.specs.declared.Costs.{Costs}
use Rattle.g9932.specs.Bits.{weight}
use Rattle.g9932.specs.Order.{is_one}
use Rattle.g9932.specs.Sizes.{entry}
use Rattle.g9932.specs.Trellis.{zero_state}
use Rattle.paths.proofs.Steps.{surviving_start, surviving_step}
use Rattle.paths.specs.Frames.{PairMeter, Suits, Matches}
use Rattle.paths.specs.Paths.{Branch}
use Rattle.paths.specs.Survivors.{branch_of, lone_branch, edges_of, Advanced, Below, FirstAlone}
use Rattle.decisions.specs.CostLists.{costs_of}
use Rattle.decisions.specs.declared.cost_lists.CostLists.{CostLists}
use Rattle.decisions.specs.Deciding.{entry_costs, meters_in_twos, no_meter, meter_in_front, pair_meters, lone_in, MeterCosts, Selected, LeastPath}

-- ---- the costs of an entry whose place is p

module _ (from : ℕ) (ps : List ℕ) (ks : CostLists) (k : ℕ) {p : ℕ} (at : p ≡ entry ps k) where
  pub own_costs : p < from → costs_of ks p ≡ entry_costs from ps ks k
  own_costs h = rw (at, lt-ltb (entry ps k) from (rw at at h)) refl

  pub both_costs : from ≤ p → shared_costs (costs_of ks p) (costs_of ks (p + 1)) ≡ entry_costs from ps ks k
  both_costs h = rw (at, le-ltb (entry ps k) from (rw at at h)) refl

-- ---- no pair yet, and one pair more

suits : (x : ℕ) (m : PairMeter) (b : Branch) → 2 ≤ x → b.lone ≡ false → LeastOf m.v b.v → LeastOf m.w b.w → Suits x m b
suits zero m b h l v w = absurd (omega arith)
suits (suc a) m b h l v w = (l, v, w)

module _ {from : ℕ} {ps : List ℕ} {ks : CostLists} (ms : List Meter) (d : MeterCosts ms from ps ks) (n : ℕ) (whole : 2 * n ≡ length ps + lone_in ps) where
  pub selected_none : (σ : List ℕ) → Selected (drop (2 * n - lone_in ps) ms) n σ (replicate 16 0)
  selected_none σ =
      let e : drop (2 * n - lone_in ps) ms ≡ [] = drop_of_length-le ms {i = 2 * n - lone_in ps} (omega (arith, d.count)) in
      subst (λ (l : List Meter). Selected l n σ (replicate 16 0)) (sym e)
      (record { branches = []; count = refl; surviving = surviving_start n σ; matches = tt })

  module _ (j : ℕ) {σ m σ' m' e : List ℕ} (v w : Costs) (above : lone_in ps < j) (inside : j ≤ n) (old : Selected (drop (2 * j - lone_in ps) ms) j σ m)
      (cv : v ≡ entry_costs from ps ks (2 * (j - 1) - lone_in ps)) (cw : w ≡ entry_costs from ps ks (2 * (j - 1) - lone_in ps + 1))
      (is : e ≡ edges_of (branch_of v w)) (below : Below (2 ^ 37) e) (a : Advanced m e (ltb (n - (j - 1)) 3) σ (16 * (j - 1)) 4 m' σ') where
    abbrev k : ℕ
    k = 2 * (j - 1) - lone_in ps

    two : drop k ms ≡ get_or ms k no_meter ∷ get_or ms (k + 1) no_meter ∷ drop (2 * j - lone_in ps) ms
    two =
        let s : suc k ≡ k + 1 = omega arith in
        let t : suc (k + 1) ≡ 2 * j - lone_in ps = omega arith in
        drop-cons ms k no_meter (omega (arith, d.count))
        ∙ ap (λ (l : List Meter). get_or ms k no_meter ∷ l)
        (ap (λ (i : ℕ). drop i ms) s ∙ drop-cons ms (k + 1) no_meter (omega (arith, d.count)) ∙ ap (λ (i : ℕ). get_or ms (k + 1) no_meter ∷ drop i ms) t)

    left : length old.branches + j ≡ n
    left = omega (arith, old.count, length-drop (2 * j - lone_in ps) ms, d.count)

    pub selected_more : Selected (drop k ms) (j - 1) σ' m'
    selected_more =
        let lv : LeastOf (get_or ms k no_meter) (cost_of v) = rw cv (d.costs k (omega (arith, d.count))) in
        let lw : LeastOf (get_or ms (k + 1) no_meter) (cost_of w) = rw cw (d.costs (k + 1) (omega (arith, d.count))) in
        subst (λ (l : List Meter). Selected l (j - 1) σ' m') (sym two)
        (record {
          branches = branch_of v w ∷ old.branches;
          count = omega (arith, old.count);
          surviving = surviving_step v w old.branches n j σ m σ' m' e (omega arith) left old.surviving is below a;
          matches = (suits _ _ (branch_of v w) (d.bits_least k (omega (arith, d.count))) refl lv lw, old.matches);
        })

  -- numbers stay small
  pub metrics_small : {j : ℕ} {σ m : List ℕ} → j ≤ n → n ≤ 2048 → Selected (drop (2 * j - lone_in ps) ms) j σ m → Below (2 ^ 59) m
  metrics_small {j} h l s i =
      let c : length s.branches ≤ 2048 = omega (arith, s.count, length-drop (2 * j - lone_in ps) ms, d.count) in
      omega (arith, s.surviving.small i, c)

-- and they are small in the end
pub whole_small : {from : ℕ} {ps : List ℕ} {ks : CostLists} (ms : List Meter) {σ m : List ℕ} → MeterCosts ms from ps ks → length ps ≤ 4096
    → Selected (drop (lone_in ps) ms) (lone_in ps) σ m → Below (2 ^ 60) m
whole_small {ps = ps} ms d most s i =
    let c : length s.branches ≤ 2048 = omega (arith, s.count, length-drop (lone_in ps) ms, d.count) in
    omega (arith, s.surviving.small i, c)

-- ---- the whole path

matches_length : (ms : List PairMeter) (bs : List Branch) → Matches ms bs → length bs ≡ length ms
matches_length [] [] h = refl
matches_length [] (b ∷ bs) h = absurd h
matches_length (m ∷ ms) [] h = absurd h
matches_length (m ∷ ms) (b ∷ bs) h = ap suc (matches_length ms bs h.1)

module _ {from : ℕ} {ps : List ℕ} {ks : CostLists} (ms : List Meter) (d : MeterCosts ms from ps ks) (enough : 1 ≤ length ps) where
  same_parity : length ms % 2 ≡ lone_in ps
  same_parity = ap (λ (n : ℕ). n % 2) d.count

  -- the first pair has x = 0
  pub path_lone : {σ m σ' : List ℕ} {w : Costs} {r : ℕ} → length ps % 2 ≡ 1 → w ≡ entry_costs from ps ks 0 → Selected (drop (lone_in ps) ms) (lone_in ps) σ m
      → FirstAlone w m σ σ' r → LeastPath (pair_meters ms) σ' r
  path_lone {σ} {m} {σ'} {w} {r} e c s f =
      let s1 : Selected (drop 1 ms) 1 σ m = rw e at s in
      let one : is_one (length ms % 2) ≡ true = eq-eqb (length ms % 2) 1 (same_parity ∙ e) in
      let cut : ms ≡ get_or ms 0 no_meter ∷ drop 1 ms = drop-cons ms 0 no_meter (omega (arith, d.count)) in
      let p : pair_meters ms ≡ record { v = no_meter; w = get_or ms 0 no_meter } ∷ meters_in_twos (drop 1 ms) =
      ap (λ (b : Bool). meters_in_twos (meter_in_front b ms)) one ∙ ap (λ (l : List Meter). meters_in_twos (no_meter ∷ l)) cut in
      let l : LeastOf (get_or ms 0 no_meter) (cost_of w) = rw c (d.costs 0 (omega (arith, d.count))) in
      subst (λ (l : List PairMeter). LeastPath l σ' r) (sym p)
      (record {
        branches = lone_branch w ∷ s1.branches;
        count = ap suc (matches_length (meters_in_twos (drop 1 ms)) s1.branches s1.matches);
        shortest = f.shortest s1.branches s1.surviving;
        matches = ((refl, refl, (λ i. refl), l), s1.matches);
      })

  pub path_even : {σ m : List ℕ} → (length ps % 2 ≡ 1 → ⊥) → Selected (drop (lone_in ps) ms) (lone_in ps) σ m → LeastPath (pair_meters ms) σ (get_or m 0 0 / 8)
  unfolding weight
  path_even {σ} {m} e s =
      let z : lone_in ps ≡ 0 = omega arith in
      let s0 : Selected ms 0 σ m = rw z at s in
      let none : is_one (length ms % 2) ≡ false = ne_eqb (length ms % 2) 1 (λ h. e (sym same_parity ∙ h)) in
      let p : pair_meters ms ≡ meters_in_twos ms = ap (λ (b : Bool). meters_in_twos (meter_in_front b ms)) none in
      subst (λ (l : List PairMeter). LeastPath l σ (get_or m 0 0 / 8)) (sym p)
      (record {
        branches = s0.branches;
        count = matches_length (meters_in_twos ms) s0.branches s0.matches;
        shortest = s0.surviving.shortest zero_state;
        matches = s0.matches;
      })
