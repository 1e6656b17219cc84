-- The nearest place of the rectangles is the nearest point of the coset.
use Prim.Native.Nat.{ℕ, zero, suc, ◌+◌, ◌*◌, ◌/◌, ◌%◌, ◌≤◌, min}
use mathlib.Core.Bool.{Bool, true, false, not}
use mathlib.Core.List.{List, [], ◌∷◌}
use mathlib.Core.Logic.{inl, inr, ⊎_elim}
use mathlib.Core.Path.{◌≡◌, refl, sym, ap, subst, ◌∙◌}
use native.Mathlib.Omega.{arith}
use lib.ListN.{length, drop}
use Rattle.g9932.specs.Bits.{◌⊕◌, bit, weight, odd}
use Rattle.g9932.specs.Trellis.{same}
use Rattle.g9932.specs.Points.{point_of, twos_complement}
use Rattle.g9932.specs.Sizes.{Point}
use Rattle.g9932.proofs.Coordinates.{coords, coords_length, coords_low, axis_bits_pos}
use Rattle.g9932.proofs.Constellations.{point_coords}
use Rattle.cosets.specs.declared.Near.{Near}
use Rattle.cosets.specs.Nearest.{Raised, RaisedPoint, Nearest, CosetCost}
use Rattle.g9932.specs.Nearest.{squared_distance}
use Rattle.cosets.specs.Grid.{Within, square, NearestIn, SquareTo, inner, outer}
use Rattle.cosets.proofs.Spots.{spot, spot_low, spot_raised, apart_raised}
use borrow.Author.Tests.{leb-true, leb-false}
use lib.Dec.{leb}
use Rattle.cosets.proofs.Places.{rectangle}
use Rattle.cosets.proofs.Regions.{Cross, axis_small, ux, uy}
use Rattle.cosets.proofs.Cosets.{LabelAt, inside, labelled, Three, three_inside, three_label}

list_raised : (l : List Bool) → 1 ≤ length l → length l ≤ 8 → Raised (twos_complement (true ∷ l)) (2 * spot l + 1)
list_raised [] h s = absurd (omega arith)
list_raised (b ∷ l) h s = spot_raised b l s

pub point_raised : (v : List Bool) → 1 ≤ length v → length v ≤ 15 → RaisedPoint (point_of (length v) v) (2 * ux v + 1) (2 * uy v + 1)
point_raised v h s =
    let n = coords_length v in
    let p = axis_bits_pos (length v) h in
    let m = axis_small (length v) s in
    rw (point_coords v)
    (record { rx = list_raised (coords v).xs (omega (arith, n.0)) (omega (arith, n.0)); ry = list_raised (coords v).ys (omega (arith, n.1)) (omega (arith, n.1)) })

low_by_lem : (l m : List Bool) (b : Bool) → l ≡ b ∷ m → length l ≤ 8 → spot l % 2 ≡ weight b
low_by_lem l m b e s = ap (λ (z : List Bool). spot z % 2) e ∙ spot_low b m (rw e at s)

pub low_places : (v : List Bool) → 2 ≤ length v → length v ≤ 15 → (ux v % 2 ≡ weight (bit v 1)) × (uy v % 2 ≡ weight (bit v 0))
low_places [] h s = absurd (omega arith)
low_places (a ∷ []) h s = absurd (omega arith)
low_places (a ∷ b ∷ l) h s =
    let v : List Bool = a ∷ b ∷ l in
    let n = coords_length v in
    let m = axis_small (length v) s in
    let k = coords_low a b l in
    (low_by_lem (coords v).xs (drop 1 (coords v).xs) b k.0 (omega (arith, n.0)), low_by_lem (coords v).ys (drop 1 (coords v).ys) a k.1 (omega (arith, n.1)))

weight_inj : (a b : Bool) → weight a ≡ weight b → a ≡ b
unfolding weight
weight_inj true true e = refl
weight_inj false false e = refl
weight_inj true false e = absurd (omega arith)
weight_inj false true e = absurd (omega arith)

pub distance_is : (v : List Bool) (p : Point) (x y : ℕ) → 1 ≤ length v → length v ≤ 15 → RaisedPoint p x y
    → squared_distance p (point_of (length v) v) ≡ square x (ux v) + square y (uy v)
distance_is v p x y h s r =
    let q = point_raised v h s in
    let ex = apart_raised p.px (point_of (length v) v).px x (2 * ux v + 1) r.rx q.rx in
    let ey = apart_raised p.py (point_of (length v) v).py y (2 * uy v + 1) r.ry q.ry in
    λ i. ex i * ex i + ey i * ey i

-- the labels of a coset
pub record InCoset (b : ℕ) (v1 v0 : Bool) (v : List Bool) : Type 0 where
  pub size : length v ≡ b
  pub low1 : bit v 1 ≡ v1
  pub low0 : bit v 0 ≡ v0

module _ (b x y : ℕ) (v1 v0 : Bool) (r : Near) (hb : 2 ≤ b) (sb : b ≤ 15) where
  pub to_nearest : LabelAt b r.u r.w → r.u % 2 ≡ weight v1 → r.w % 2 ≡ weight v0 → r.cost ≡ square x r.u + square y r.w
      → ((v : List Bool) → InCoset b v1 v0 v → r.cost ≤ square x (ux v) + square y (uy v))
      → (p : Point) → RaisedPoint p x y → Nearest b v1 v0 p (2 * r.u + 1) (2 * r.w + 1) r.cost
  to_nearest l p1 p0 e best p rp =
      let v = l.label in
      let k = low_places v (rw l.size hb) (rw l.size sb) in
      let n : 1 ≤ length v = omega (arith, l.size) in
      let s : length v ≤ 15 = omega (arith, l.size) in
      let d = distance_is v p x y n s rp in
      let a = point_raised v n s in
      record {
        label = v;
        size = l.size;
        low1 = weight_inj (bit v 1) v1 (sym k.0 ∙ ap (λ (z : ℕ). z % 2) l.x ∙ p1);
        low0 = weight_inj (bit v 0) v0 (sym k.1 ∙ ap (λ (z : ℕ). z % 2) l.y ∙ p0);
        at = rw (l.size, l.x, l.y) at a;
        cost = rw (l.size, l.x, l.y) at d ∙ sym e;
        least =
            λ w hw l1 l0.
            let z : 1 ≤ length w = omega (arith, hw) in
            let t : length w ≤ 15 = omega (arith, hw) in
            let c = best w (record { size = hw; low1 = l1; low0 = l0 }) in
            subst (λ (m : ℕ). r.cost ≤ squared_distance p (point_of m w)) hw (rw (distance_is w p x y z t rp) c);
      }

-- ---- two rectangles

coset_places : (b : ℕ) (v1 v0 : Bool) (v : List Bool) → 2 ≤ b → b ≤ 15 → InCoset b v1 v0 v → (ux v % 2 ≡ weight v1) × (uy v % 2 ≡ weight v0)
coset_places b v1 v0 v h s i =
    let k = low_places v (rw i.size h) (rw i.size s) in
    (k.0 ∙ ap weight i.low1, k.1 ∙ ap weight i.low0)

module _ (b x y i j : ℕ) (v1 v0 : Bool) (r q : Near) (hb : 2 ≤ b) (sb : b ≤ 15) (n3 : b ≡ 3 → ⊥) (hi : i ≡ weight v1) (hj : j ≡ weight v0)
    (nr : NearestIn x y (inner b) (outer b) i j r) (nq : NearestIn x y (outer b) (inner b) i j q) where
  best_of : (c : ℕ) → c ≤ r.cost → c ≤ q.cost → (v : List Bool) → InCoset b v1 v0 v → c ≤ square x (ux v) + square y (uy v)
  best_of c cr cq v m =
      let k = coset_places b v1 v0 v hb sb m in
      let px = k.0 ∙ sym hi in
      let py = k.1 ∙ sym hj in
      let z : Cross (inner b) (outer b) (ux v) (uy v) =
      subst (λ (n : ℕ). Cross (inner n) (outer n) (ux v) (uy v)) m.size (inside v (rw m.size hb) (rw m.size sb) (λ e. n3 (sym m.size ∙ e))) in
      ⊎_elim (λ g. le_by c r.cost _ cr (nr.least (ux v) (uy v) px py g.0 g.1)) (λ g. le_by c q.cost _ cq (nq.least (ux v) (uy v) px py g.0 g.1)) z
    where
      le_by : (a b d : ℕ) → a ≤ b → b ≤ d → a ≤ d
      le_by a b d p q = omega arith

  pub first_nearest : r.cost ≤ q.cost → (p : Point) → RaisedPoint p x y → Nearest b v1 v0 p (2 * r.u + 1) (2 * r.w + 1) r.cost
  first_nearest h =
      to_nearest b x y v1 v0 r hb sb (labelled b r.u r.w hb sb n3 (inl (nr.within_x, nr.within_y)))
      (nr.parity_x ∙ hi) (nr.parity_y ∙ hj) nr.cost (best_of r.cost (omega arith) h)

  pub second_nearest : q.cost ≤ r.cost → (p : Point) → RaisedPoint p x y → Nearest b v1 v0 p (2 * q.u + 1) (2 * q.w + 1) q.cost
  second_nearest h =
      to_nearest b x y v1 v0 q hb sb (labelled b q.u q.w hb sb n3 (inr (nq.within_x, nq.within_y)))
      (nq.parity_x ∙ hi) (nq.parity_y ∙ hj) nq.cost (best_of q.cost h (omega arith))

-- ---- three bits

three_places : (v : List Bool) → length v ≡ 3 → Three (same (bit v 1) (bit v 0)) (ux v) (uy v)
three_places [] h = absurd (omega arith)
three_places (a ∷ []) h = absurd (omega arith)
three_places (a ∷ b ∷ []) h = absurd (omega arith)
three_places (a ∷ b ∷ c ∷ []) h = three_inside a b c
three_places (a ∷ b ∷ c ∷ d ∷ l) h = absurd (omega arith)

odd_of : (u : ℕ) (b : Bool) → u % 2 ≡ weight b → odd u ≡ b
unfolding odd weight
odd_of u true e = rw e
odd_of u false e = rw e

module _ (x y i j ax ay : ℕ) (v1 v0 : Bool) (r : Near) (hi : i ≡ weight v1) (hj : j ≡ weight v0) (nr : NearestIn x y ax ay i j r)
    (to : (u w : ℕ) → Three (same v1 v0) u w → Within ax u × Within ay w) (back : (u w : ℕ) → Within ax u → Within ay w → Three (same v1 v0) u w) where
  pub three_nearest : (p : Point) → RaisedPoint p x y → Nearest 3 v1 v0 p (2 * r.u + 1) (2 * r.w + 1) r.cost
  three_nearest =
      let e1 = odd_of r.u v1 (nr.parity_x ∙ hi) in
      let e0 = odd_of r.w v0 (nr.parity_y ∙ hj) in
      to_nearest 3 x y v1 v0 r (omega arith) (omega arith) (three_label r.u r.w (rw (e1, e0) (back r.u r.w nr.within_x nr.within_y)))
      (nr.parity_x ∙ hi) (nr.parity_y ∙ hj) nr.cost best
    where
      best : (v : List Bool) → InCoset 3 v1 v0 v → r.cost ≤ square x (ux v) + square y (uy v)
      best v m =
          let k = coset_places 3 v1 v0 v (omega arith) (omega arith) m in
          let t : Three (same v1 v0) (ux v) (uy v) = rw (m.low1, m.low0) at (three_places v m.size) in
          let g = to (ux v) (uy v) t in
          nr.least (ux v) (uy v) (k.0 ∙ sym hi) (k.1 ∙ sym hj) g.0 g.1

same_by : (v1 v0 : Bool) (c : Bool) → v1 ⊕ v0 ≡ c → same v1 v0 ≡ not c
same_by v1 v0 c e = ap not e

pub three_mixed : (x y i j : ℕ) (v1 v0 : Bool) (r : Near) → i ≡ weight v1 → j ≡ weight v0 → NearestIn x y 1 2 i j r → v1 ⊕ v0 ≡ true
    → (p : Point) → RaisedPoint p x y → Nearest 3 v1 v0 p (2 * r.u + 1) (2 * r.w + 1) r.cost
three_mixed x y i j v1 v0 r hi hj nr e =
    let f = same_by v1 v0 true e in
    three_nearest x y i j 1 2 v1 v0 r hi hj nr (λ u w t. subst (λ (z : Bool). Three z u w) f t) (λ u w a b. subst (λ (z : Bool). Three z u w) (sym f) (a, b))

pub three_alike : (x y i j : ℕ) (v1 v0 : Bool) (r : Near) → i ≡ weight v1 → j ≡ weight v0 → NearestIn x y 2 1 i j r → v1 ⊕ v0 ≡ false
    → (p : Point) → RaisedPoint p x y → Nearest 3 v1 v0 p (2 * r.u + 1) (2 * r.w + 1) r.cost
three_alike x y i j v1 v0 r hi hj nr e =
    let f = same_by v1 v0 false e in
    three_nearest x y i j 2 1 v1 v0 r hi hj nr (λ u w t. subst (λ (z : Bool). Three z u w) f t) (λ u w a b. subst (λ (z : Bool). Three z u w) (sym f) (a, b))

-- ---- sizes in the code

pub half_more : (r i : ℕ) → r ≤ 1 → i ≤ 64 → r * ((i + 1) / 2) ≤ 32
half_more zero i h g = omega arith
half_more (suc zero) i h g = omega arith
half_more (suc (suc r)) i h g = absurd (omega arith)

-- ---- costs alone

abbrev near_of : {x y a c i j d e : ℕ} → SquareTo x a i d → SquareTo y c j e → Near
near_of {d = d} {e = e} s t = record { u = s.u; w = t.u; cost = d + e }

near_in : {x y a c i j d e : ℕ} (s : SquareTo x a i d) (t : SquareTo y c j e) → NearestIn x y a c i j (near_of s t)
near_in {x} {y} {a} {c} {i} {j} {d} {e} s t = rectangle x y a c i j s.u t.u d e s.near t.near s.is t.is

module _ (b x y i j xi yi xo yo m : ℕ) (v1 v0 : Bool) (hb : 2 ≤ b) (sb : b ≤ 15) (hi : i ≡ weight v1) (hj : j ≡ weight v0)
    (sxi : SquareTo x (inner b) i xi) (syi : SquareTo y (inner b) j yi) (sxo : SquareTo x (outer b) i xo) (syo : SquareTo y (outer b) j yo) where
  pub cross_cost : (b ≡ 3 → ⊥) → m ≡ min (xi + yo) (xo + yi) → (p : Point) → RaisedPoint p x y → CosetCost b v1 v0 p m
  cross_cost n3 e p rp = go (leb (xi + yo) (xo + yi)) refl
    where
      go : (t : Bool) → leb (xi + yo) (xo + yi) ≡ t → CosetCost b v1 v0 p m
      go true t =
          let h = leb-true (xi + yo) (xo + yi) t in
          let z : m ≡ xi + yo = omega arith in
          record { x = 2 * sxi.u + 1; y = 2 * syo.u + 1; near = rw z (first_nearest b x y i j v1 v0 (near_of sxi syo) (near_of sxo syi) hb sb n3 hi hj (near_in sxi syo) (near_in sxo syi) h p rp) }
      go false t =
          let h = leb-false (xi + yo) (xo + yi) t in
          let z : m ≡ xo + yi = omega arith in
          record { x = 2 * sxo.u + 1; y = 2 * syi.u + 1; near = rw z (second_nearest b x y i j v1 v0 (near_of sxi syo) (near_of sxo syi) hb sb n3 hi hj (near_in sxi syo) (near_in sxo syi) (omega arith) p rp) }

module _ (x y i j xi yi xo yo : ℕ) (v1 v0 : Bool) (hi : i ≡ weight v1) (hj : j ≡ weight v0)
    (sxi : SquareTo x (inner 3) i xi) (syi : SquareTo y (inner 3) j yi) (sxo : SquareTo x (outer 3) i xo) (syo : SquareTo y (outer 3) j yo) where
  pub mixed_cost : v1 ⊕ v0 ≡ true → (p : Point) → RaisedPoint p x y → CosetCost 3 v1 v0 p (xi + yo)
  mixed_cost e p rp =
      record { x = 2 * sxi.u + 1; y = 2 * syo.u + 1; near = three_mixed x y i j v1 v0 (near_of sxi syo) hi hj (near_in sxi syo) e p rp }

  pub alike_cost : v1 ⊕ v0 ≡ false → (p : Point) → RaisedPoint p x y → CosetCost 3 v1 v0 p (xo + yi)
  alike_cost e p rp =
      record { x = 2 * sxo.u + 1; y = 2 * syi.u + 1; near = three_alike x y i j v1 v0 (near_of sxo syi) hi hj (near_in sxo syi) e p rp }
