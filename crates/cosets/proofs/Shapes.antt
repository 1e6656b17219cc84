-- The shape of a constellation, from its layout; and what is nearest, by shape.
use Prim.Native.Nat.{ℕ, zero, suc, ◌+◌, ◌*◌, ◌/◌, ◌%◌, ◌≤◌, ◌<◌, min}
use mathlib.Core.Bool.{Bool, true, false, not, ◌&&◌, ◌||◌, true≢false}
use mathlib.Core.Path.{◌≡◌, refl, sym, ap, ◌∙◌}
use native.Mathlib.Nat.{le_of_lt}
use native.Mathlib.Omega.{arith}
use borrow.Author.Tests.{ltb-true, ltb-false, eqb-true, eqb-false}
use lib.Dec.{ltb, eqb}
use lib.Pow.{pow_pos, pow_mono}
use Rattle.constellation.proofs.DemapByLayout.{is_layout}
use Rattle.constellation.proofs.Grid.{bit_rule}
use Rattle.constellation.proofs.Mapping.{rule}
use Rattle.constellation.specs.Layouts.{upper, layout_of, ToneLayout}
use Rattle.g9932.specs.Bits.{◌⊕◌, first, weight}
use Rattle.g9932.specs.Sizes.{Point}
use Rattle.cosets.specs.declared.Near.{Near}
use Rattle.cosets.specs.declared.given.Shape.{Shape}
use Rattle.cosets.specs.declared.Costs.{Costs}
use Rattle.cosets.specs.declared.Sides.{Sides}
use Rattle.cosets.specs.Grid.{inner, outer, NearestIn, SidesOf, ShapeOf, Sided}
use Rattle.cosets.specs.Nearest.{RaisedPoint, Nearest, CostsOf}
use Rattle.cosets.proofs.Chosen.{half_more, first_nearest, second_nearest, three_mixed, three_alike, cross_cost, mixed_cost, alike_cost}

-- ---- the layouts of 2 to 15 bits: one computed test each

-- (b is 2 + j)
inner_by : (j : ℕ) → j < 14 → upper (layout_of (suc (suc j))) ≡ inner (suc (suc j))
unfolding first
inner_by = rule (λ j. upper (layout_of (suc (suc j)))) (λ j. inner (suc (suc j))) 14 refl

odd_by : (j : ℕ) → j < 14 → layout_of (suc (suc j)) / 128 % 2 ≡ suc (suc j) % 2
unfolding first
odd_by = rule (λ j. layout_of (suc (suc j)) / 128 % 2) (λ j. suc (suc j) % 2) 14 refl

three_by : (j : ℕ) → j < 14 → eqb (layout_of (suc (suc j))) 448 ≡ eqb (suc (suc j)) 3
unfolding first
three_by = bit_rule (λ j. eqb (layout_of (suc (suc j))) 448) (λ j. eqb (suc (suc j)) 3) 14 refl

one_by : (j : ℕ) → j < 14 → eqb (layout_of (suc (suc j))) 33088 ≡ false
unfolding first
one_by = bit_rule (λ j. eqb (layout_of (suc (suc j))) 33088) (λ j. false) 14 refl

-- a layout of 2 or more bits is not that of 1 bit
pub not_one : (b s : ℕ) → 2 ≤ b → b ≤ 15 → s ≡ layout_of b → s ≡ 33088 → ⊥
not_one zero s l m e z = omega arith
not_one (suc zero) s l m e z = omega arith
not_one (suc (suc j)) s l m e z = eqb-false (layout_of (suc (suc j))) 33088 (one_by j (omega arith)) (sym e ∙ z)

-- the longer side, as the code has it
abbrev longer : ℕ → ℕ
longer s = upper s + s / 128 % 2 * ((upper s + 1) / 2)

pub sides_fit : (s : ℕ) → ToneLayout s → (1 ≤ upper s) × (upper s ≤ 64) × (1 ≤ longer s) × (longer s ≤ 96)
sides_fit s t =
    let l = is_layout s t in
    let e = l.2 in
    let least : 1 ≤ upper s = omega (arith, e, pow_pos l.0) in
    let most : upper s ≤ 64 = omega (arith, e, pow_mono {i = l.0} {j = 6} l.1) in
    let m = half_more (s / 128 % 2) (upper s) (omega arith) most in
    (least, most, omega arith, omega arith)

pub sided : (s : ℕ) (h : Shape) → h.inner ≡ upper s → h.outer ≡ longer s → h.three ≡ eqb s 448 → Sided s h
sided s h ei eo et =
    record {
      shaped = go;
      one = λ e. record { inner_is = ei ∙ ap upper e; outer_is = eo ∙ ap (λ (z : ℕ). longer z) e; three_is = et ∙ ap (λ (z : ℕ). eqb z 448) e };
    }
  where
    go : (b : ℕ) → 2 ≤ b → b ≤ 15 → s ≡ layout_of b → ShapeOf b h
    go zero l m e = absurd (omega arith)
    go (suc zero) l m e = absurd (omega arith)
    go (suc (suc j)) l m e =
        let i = ap upper e ∙ inner_by j (omega arith) in
        let o = ap (λ (z : ℕ). z / 128 % 2) e ∙ odd_by j (omega arith) in
        record { inner_is = ei ∙ i; outer_is = eo ∙ (λ k. i k + o k * ((i k + 1) / 2)); three_is = et ∙ ap (λ (z : ℕ). eqb z 448) e ∙ three_by j (omega arith) }

-- ---- the nearer of the two rectangles, of 3 bits the one that the lowest bits tell

abbrev across : Bool → Bool → Bool → Bool
across three alike cheaper = (three && alike) || (not three && cheaper)

alike_is : (v1 v0 : Bool) → eqb (weight v1) (weight v0) ≡ true → v1 ⊕ v0 ≡ false
unfolding weight
alike_is true true e = refl
alike_is false false e = refl
alike_is true false e = sym e
alike_is false true e = sym e

mixed_is : (v1 v0 : Bool) → eqb (weight v1) (weight v0) ≡ false → v1 ⊕ v0 ≡ true
unfolding weight
mixed_is true true e = sym e
mixed_is false false e = sym e
mixed_is true false e = refl
mixed_is false true e = refl

module _ (x y i j b : ℕ) (h : Shape) (p q : Near) (lb : 2 ≤ b) (mb : b ≤ 15) (shape : ShapeOf b h) (w1 w0 : Bool) (hi : i ≡ weight w1) (hj : j ≡ weight w0)
    (np : NearestIn x y h.inner h.outer i j p) (nq : NearestIn x y h.outer h.inner i j q) where
  np' : NearestIn x y (inner b) (outer b) i j p
  np' = rw (shape.inner_is, shape.outer_is) at np

  nq' : NearestIn x y (outer b) (inner b) i j q
  nq' = rw (shape.inner_is, shape.outer_is) at nq

  pub takes_second : across h.three (eqb i j) (ltb q.cost p.cost) ≡ true → (o : Point) → RaisedPoint o x y → Nearest b w1 w0 o (2 * q.u + 1) (2 * q.w + 1) q.cost
  takes_second e = go h.three refl (eqb i j) refl (ltb q.cost p.cost) refl e
    where
      go : (t : Bool) → h.three ≡ t → (a : Bool) → eqb i j ≡ a → (c : Bool) → ltb q.cost p.cost ≡ c → across t a c ≡ true
          → (o : Point) → RaisedPoint o x y → Nearest b w1 w0 o (2 * q.u + 1) (2 * q.w + 1) q.cost
      go true t true a c k e =
          let z : b ≡ 3 = eqb-true b 3 (sym shape.three_is ∙ t) in
          let n = rw z at nq' in
          rw z (three_alike x y i j w1 w0 q hi hj n (alike_is w1 w0 (rw (hi, hj) at a)))
      go true t false a c k e = absurd (true≢false (sym e))
      go false t a k true c e = second_nearest b x y i j w1 w0 p q lb mb (λ z. eqb-false b 3 (sym shape.three_is ∙ t) z) hi hj np' nq' (le_of_lt (ltb-true q.cost p.cost c))
      go false t true k false c e = absurd (true≢false (sym e))
      go false t false k false c e = absurd (true≢false (sym e))

  pub takes_first : across h.three (eqb i j) (ltb q.cost p.cost) ≡ false → (o : Point) → RaisedPoint o x y → Nearest b w1 w0 o (2 * p.u + 1) (2 * p.w + 1) p.cost
  takes_first e = go h.three refl (eqb i j) refl (ltb q.cost p.cost) refl e
    where
      go : (t : Bool) → h.three ≡ t → (a : Bool) → eqb i j ≡ a → (c : Bool) → ltb q.cost p.cost ≡ c → across t a c ≡ false
          → (o : Point) → RaisedPoint o x y → Nearest b w1 w0 o (2 * p.u + 1) (2 * p.w + 1) p.cost
      go true t false a c k e =
          let z : b ≡ 3 = eqb-true b 3 (sym shape.three_is ∙ t) in
          let n = rw z at np' in
          rw z (three_mixed x y i j w1 w0 p hi hj n (mixed_is w1 w0 (rw (hi, hj) at a)))
      go true t true a c k e = absurd (true≢false e)
      go false t a k false c e = first_nearest b x y i j w1 w0 p q lb mb (λ z. eqb-false b 3 (sym shape.three_is ∙ t) z) hi hj np' nq' (ltb-false q.cost p.cost c)
      go false t true k true c e = absurd (true≢false e)
      go false t false k true c e = absurd (true≢false e)

-- ---- the costs of the four cosets, from the squares on each axis

module _ (b : ℕ) (h : Shape) (x y : ℕ) (X Y : Sides) (lb : 2 ≤ b) (mb : b ≤ 15) (shape : ShapeOf b h) (hx : SidesOf x h.inner h.outer X) (hy : SidesOf y h.inner h.outer Y)
    (p : Point) (at : RaisedPoint p x y) where
  sx : SidesOf x (inner b) (outer b) X
  sx = rw (shape.inner_is, shape.outer_is) at hx

  sy : SidesOf y (inner b) (outer b) Y
  sy = rw (shape.inner_is, shape.outer_is) at hy

  pub three_costs : h.three ≡ true → CostsOf b p (record { c0 = X.outer0 + Y.inner0; c1 = X.inner0 + Y.outer1; c2 = X.inner1 + Y.outer0; c3 = X.outer1 + Y.inner1 })
  unfolding weight
  three_costs t =
      let z : b ≡ 3 = eqb-true b 3 (sym shape.three_is ∙ t) in
      let u : SidesOf x (inner 3) (outer 3) X = rw z at sx in
      let w : SidesOf y (inner 3) (outer 3) Y = rw z at sy in
      rw z
      (record {
        is0 = alike_cost x y 0 0 _ _ _ _ false false refl refl u.inner0 w.inner0 u.outer0 w.outer0 refl p at;
        is1 = mixed_cost x y 0 1 _ _ _ _ false true refl refl u.inner0 w.inner1 u.outer0 w.outer1 refl p at;
        is2 = mixed_cost x y 1 0 _ _ _ _ true false refl refl u.inner1 w.inner0 u.outer1 w.outer0 refl p at;
        is3 = alike_cost x y 1 1 _ _ _ _ true true refl refl u.inner1 w.inner1 u.outer1 w.outer1 refl p at;
      })

  pub cross_costs : h.three ≡ false → (r : Costs) → r.c0 ≡ min (X.inner0 + Y.outer0) (X.outer0 + Y.inner0) → r.c1 ≡ min (X.inner0 + Y.outer1) (X.outer0 + Y.inner1)
      → r.c2 ≡ min (X.inner1 + Y.outer0) (X.outer1 + Y.inner0) → r.c3 ≡ min (X.inner1 + Y.outer1) (X.outer1 + Y.inner1) → CostsOf b p r
  unfolding weight
  cross_costs t r e0 e1 e2 e3 =
      let n : b ≡ 3 → ⊥ = eqb-false b 3 (sym shape.three_is ∙ t) in
      record {
        is0 = cross_cost b x y 0 0 _ _ _ _ _ false false lb mb refl refl sx.inner0 sy.inner0 sx.outer0 sy.outer0 n e0 p at;
        is1 = cross_cost b x y 0 1 _ _ _ _ _ false true lb mb refl refl sx.inner0 sy.inner1 sx.outer0 sy.outer1 n e1 p at;
        is2 = cross_cost b x y 1 0 _ _ _ _ _ true false lb mb refl refl sx.inner1 sy.inner0 sx.outer1 sy.outer0 n e2 p at;
        is3 = cross_cost b x y 1 1 _ _ _ _ _ true true lb mb refl refl sx.inner1 sy.inner1 sx.outer1 sy.outer1 n e3 p at;
      }
