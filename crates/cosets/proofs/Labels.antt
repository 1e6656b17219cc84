-- From raised coordinates to the labels and costs of an entry.
use Rattle.std.specs.Prelude.{Some}
use Prim.Native.Nat.{ℕ, ◌+◌, ◌*◌, ◌/◌, ◌≤◌, ◌<◌}
use mathlib.Core.Bool.{Bool, true, false}
use mathlib.Core.List.{List, [], ◌∷◌}
use mathlib.Core.Path.{◌≡◌, refl, sym, ap, ◌∙◌}
use native.Mathlib.Omega.{arith}
use lib.IntN.{ℤ, pos, negsuc}
use lib.ListN.{length}
use mir.Syntax.{w16}
use mir.Val.{SFits}
use Rattle.g9932.specs.Bits.{bit, weight, odd}
use Rattle.g9932.specs.Nearest.{squared_distance}
use Rattle.g9932.specs.Points.{point_of, label_of}
use Rattle.g9932.specs.Sizes.{Point, point}
use Rattle.g9932.proofs.Constellations.{point_coords}
use Rattle.g9932.proofs.Labels.{label_point}
use Rattle.g9932.proofs.Words.{weight_le, weight_odd}
use Rattle.cosets.specs.declared.Costs.{Costs}
use Rattle.cosets.specs.declared.Coset.{Coset}
use Rattle.cosets.specs.Nearest.{Raised, Nearest, CosetCost, CostsOf, OneCostsOf}
use Rattle.cosets.specs.Meters.{Meter, tone_meter, shared, cost_of, bit_cost, LeastOf, CosetLabel, PointOfLabel, BestLabel, shared_costs, LeastAmong}

-- ---- coordinates, raised and back

pub raised_fits : (z : ℤ) (n : ℕ) → Raised z n → n < 2048 → SFits w16 z
raised_fits (pos a) n r h = record { sfits = omega arith }
raised_fits (negsuc a) n r h = record { sfits = omega arith }

raised_same : (a b : ℤ) (n : ℕ) → Raised a n → Raised b n → a ≡ b
raised_same (pos a) (pos b) n p q = let e : a ≡ b = omega arith in ap pos e
raised_same (pos a) (negsuc b) n p q = absurd (omega arith)
raised_same (negsuc a) (pos b) n p q = absurd (omega arith)
raised_same (negsuc a) (negsuc b) n p q = let e : a ≡ b = omega arith in ap negsuc e

-- ---- the nearest label of a coset, from the nearest point

pub label_nearest : {b x y d : ℕ} {v1 v0 : Bool} {p : Point} → Nearest b v1 v0 p x y d → (a c : ℤ) → Raised a x → Raised c y
    → PointOfLabel b (point a c) (CosetLabel (tone_meter b p) v1 v0)
label_nearest {b = b} n a c ra rc =
    let v = n.label in
    let ex = raised_same a (point_of b v).px _ ra n.at.rx in
    let ey = raised_same c (point_of b v).py _ rc n.at.ry in
    let o : label_of b (point a c) ≡ Some v = (λ i. label_of b (point (ex i) (ey i))) ∙ label_point b v n.size in
    (v, o, record { size = n.size; low1 = n.low1; low0 = n.low0; least = λ w h l1 l0. rw n.cost (n.least w h l1 l0) })

-- ---- the costs of a tone, and of two that share

coset : (b : ℕ) (p : Point) (r : Costs) → CostsOf b p r → (v1 v0 : Bool) → CosetCost b v1 v0 p (cost_of r (weight v0 + 2 * weight v1))
unfolding weight
coset b p r h false false = h.is0
coset b p r h false true = h.is1
coset b p r h true false = h.is2
coset b p r h true true = h.is3

pub tone_least : {b : ℕ} {p : Point} {r : Costs} → CostsOf b p r → LeastOf (tone_meter b p) (cost_of r)
tone_least {b = b} {p = p} {r = r} h =
    record {
      label = λ v1 v0. (coset b p r h v1 v0).near.label;
      size = λ v1 v0. (coset b p r h v1 v0).near.size;
      low1 = λ v1 v0. (coset b p r h v1 v0).near.low1;
      low0 = λ v1 v0. (coset b p r h v1 v0).near.low0;
      is = λ v1 v0. (coset b p r h v1 v0).near.cost;
      least = λ w l. (coset b p r h (bit w 1) (bit w 0)).near.least w l refl refl;
    }

-- the points of 1 bit are those of 2 bits with the labels 00 and 11
pub one_costs : {p : Point} {r : Costs} → CostsOf 2 p r → OneCostsOf p r
one_costs {p = p} {r = r} h = record { is0 = by false h.is0.near; is1 = by true h.is3.near }
  where
    both : (z : Bool) (v : List Bool) → length v ≡ 2 → bit v 1 ≡ z → bit v 0 ≡ z → v ≡ z ∷ z ∷ []
    both z [] l e1 e0 = absurd (omega arith)
    both z (a ∷ []) l e1 e0 = absurd (omega arith)
    both z (a ∷ b ∷ []) l e1 e0 = λ i. e0 i ∷ e1 i ∷ []
    both z (a ∷ b ∷ c ∷ v) l e1 e0 = absurd (omega arith)

    by : {x y d : ℕ} (z : Bool) → Nearest 2 z z p x y d → squared_distance p (point_of 1 (z ∷ [])) ≡ d
    by z n =
        let e = point_coords (z ∷ []) ∙ sym (point_coords (z ∷ z ∷ [])) ∙ ap (point_of 2) (sym (both z n.label n.size n.low1 n.low0)) in
        ap (squared_distance p) e ∙ n.cost

-- each label has a coset of its own
abbrev one_label : Bool → Bool → List Bool
one_label v1 v0 = v0 ∷ v1 ∷ []

one_cost : {p : Point} {c : Costs} → OneCostsOf p c → (z : Bool) → squared_distance p (point_of 1 (z ∷ [])) ≡ bit_cost c (weight z)
unfolding weight
one_cost h true = h.is1
one_cost h false = h.is0

pub shared_least : {p q : Point} {a b : Costs} → OneCostsOf p a → OneCostsOf q b → LeastOf (shared (tone_meter 1 p) (tone_meter 1 q)) (cost_of (shared_costs a b))
unfolding weight
shared_least {p = p} {q = q} {a = a} {b = b} ha hb =
    record {
      label = one_label;
      size = λ v1 v0. refl;
      low1 = λ v1 v0. refl;
      low0 = λ v1 v0. refl;
      is = is;
      least = go;
    }
  where
    by : (v1 v0 : Bool) → bit_cost a (weight v0) + bit_cost b (weight v1) ≡ cost_of (shared_costs a b) (weight v0 + 2 * weight v1)
    by true true = refl
    by true false = refl
    by false true = refl
    by false false = refl

    is : (v1 v0 : Bool) → squared_distance p (point_of 1 (v0 ∷ [])) + squared_distance q (point_of 1 (v1 ∷ [])) ≡ cost_of (shared_costs a b) (weight v0 + 2 * weight v1)
    is v1 v0 = let x = one_cost ha v0 in let y = one_cost hb v1 in (λ i. x i + y i) ∙ by v1 v0

    go : (w : List Bool) → length w ≡ 2 → cost_of (shared_costs a b) (weight (bit w 0) + 2 * weight (bit w 1)) ≤ (shared (tone_meter 1 p) (tone_meter 1 q)).cost w
    go [] l = absurd (omega arith)
    go (v0 ∷ []) l = absurd (omega arith)
    go (v0 ∷ v1 ∷ []) l = omega (arith, is v1 v0)
    go (v0 ∷ v1 ∷ c ∷ w) l = absurd (omega arith)

-- ---- the label of two that share is its coset's only one

pub shared_label : (a b : Meter) (v1 v0 : Bool) → CosetLabel (shared a b) v1 v0 (v0 ∷ v1 ∷ [])
shared_label a b v1 v0 = record { size = refl; low1 = refl; low0 = refl; least = go }
  where
    go : (w : List Bool) → length w ≡ 2 → bit w 1 ≡ v1 → bit w 0 ≡ v0 → (shared a b).cost (v0 ∷ v1 ∷ []) ≤ (shared a b).cost w
    go [] l e1 e0 = absurd (omega arith)
    go (x ∷ []) l e1 e0 = absurd (omega arith)
    go (x ∷ y ∷ []) l e1 e0 = rw (← e1, ← e0) (omega arith)
    go (x ∷ y ∷ c ∷ w) l e1 e0 = absurd (omega arith)

-- what a nearest label of a coset costs
pub coset_cost : {m : Meter} {c : ℕ → ℕ} {v1 v0 : Bool} {v : List Bool} → LeastOf m c → CosetLabel m v1 v0 v → m.cost v ≡ c (weight v0 + 2 * weight v1)
coset_cost {m = m} {c = c} {v1 = v1} {v0 = v0} {v = v} l h =
    let least = h.least (l.label v1 v0) (l.size v1 v0) (l.low1 v1 v0) (l.low0 v1 v0) in
    let other : c (weight v0 + 2 * weight v1) ≤ m.cost v = rw (h.low1, h.low0) at (l.least v h.size) in
    omega (arith, least, l.is v1 v0, other)

-- a number of two bits, by its bits
two_numbers : (n : ℕ) → n < 4 → weight (odd n) + 2 * weight (odd (n / 2)) ≡ n
two_numbers n h = let a = weight_odd n in let b = weight_odd (n / 2) in omega arith

-- the nearest label of the nearest coset
pub best_label : {m : Meter} {c : Costs} {r : Coset} {v : List Bool} → LeastOf m (cost_of c) → LeastAmong 4 (cost_of c) r → CosetLabel m (odd (r.low / 2)) (odd r.low) v → BestLabel m v r.cost
best_label {m = m} {c = c} {r = r} {v = v} l k h =
    record { size = h.size; cost = coset_cost l h ∙ ap (cost_of c) (two_numbers r.low k.small) ∙ sym k.is; least = go }
  where
    le_by : (x y z : ℕ) → x ≤ y → y ≤ z → x ≤ z
    le_by x y z p q = omega arith

    go : (w : List Bool) → length w ≡ m.bits → r.cost ≤ m.cost w
    go w e =
        let n : ℕ = weight (bit w 0) + 2 * weight (bit w 1) in
        let s : n < 4 = omega (arith, weight_le (bit w 0), weight_le (bit w 1)) in
        le_by r.cost (cost_of c n) (m.cost w) (k.least n s) (l.least w e)

-- the nearest bit
pub best_one : {p : Point} {c : Costs} {r : Coset} → OneCostsOf p c → LeastAmong 2 (bit_cost c) r → BestLabel (tone_meter 1 p) (odd r.low ∷ []) r.cost
best_one {p = p} {c = c} {r = r} o k =
    let e : weight (odd r.low) ≡ r.low = omega (arith, weight_odd r.low, k.small) in
    record { size = refl; cost = one_cost o (odd r.low) ∙ ap (bit_cost c) e ∙ sym k.is; least = go }
  where
    go : (w : List Bool) → length w ≡ 1 → r.cost ≤ squared_distance p (point_of 1 w)
    go [] e = absurd (omega arith)
    go (z ∷ []) e = rw (one_cost o z) (k.least (weight z) (omega (arith, weight_le z)))
    go (x ∷ y ∷ w) e = absurd (omega arith)
