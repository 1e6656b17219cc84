-- The nearest point of a coset: among the labels of b bits with given two lowest bits.
use Rattle.std.specs.Prelude.{ℕ, suc, ◌+◌, ◌*◌, ◌≤◌, ◌<◌, Bool, true, false, List, [], ◌∷◌, ◌≡◌, ℤ, pos, negsuc, nat_abs, length}
use Rattle.g9932.specs.Bits.{bit, weight}
use Rattle.g9932.specs.Sizes.{Point}
use Rattle.g9932.specs.Points.{point_of}
use Rattle.g9932.specs.Nearest.{squared_distance}
use Rattle.cosets.specs.declared.Costs.{Costs}
use Rattle.cosets.specs.declared.Near.{Near}
use Rattle.cosets.specs.declared.given.Received.{Received}
use Rattle.cosets.specs.declared.given.Shape.{Shape}
use Rattle.cosets.specs.Grid.{ShapeOf}

-- 23 does not apply to a coordinate
abbrev pub InRange : ℤ → Type 0
InRange z = nat_abs z ≤ 1023

-- a coordinate raised by 1,024 is n
abbrev pub Raised : ℤ → ℕ → Type 0
Raised (pos a) n = n ≡ a + 1024
Raised (negsuc a) n = n + suc a ≡ 1024

pub record RaisedPoint (p : Point) (x y : ℕ) : Type 0 where
  pub rx : Raised p.px x
  pub ry : Raised p.py y

-- a received point that the code holds raised
abbrev pub IsReceived : Point → Received → Type 0
IsReceived p s = RaisedPoint p s.x s.y

-- (x, y), raised, is a point of a label with the lowest bits v1 v0, at the squared distance d from p, and no such label's point is nearer
pub record Nearest (b : ℕ) (v1 v0 : Bool) (p : Point) (x y d : ℕ) : Type 0 where
  pub label : List Bool
  pub size : length label ≡ b
  pub low1 : bit label 1 ≡ v1
  pub low0 : bit label 0 ≡ v0
  pub at : RaisedPoint (point_of b label) x y
  pub cost : squared_distance p (point_of b label) ≡ d
  pub least : (w : List Bool) → length w ≡ b → bit w 1 ≡ v1 → bit w 0 ≡ v0 → d ≤ squared_distance p (point_of b w)

-- the least squared distance of a coset
pub record CosetCost (b : ℕ) (v1 v0 : Bool) (p : Point) (d : ℕ) : Type 0 where
  pub x : ℕ
  pub y : ℕ
  pub near : Nearest b v1 v0 p x y d

-- by the number (v1 v0)
pub record CostsOf (b : ℕ) (p : Point) (r : Costs) : Type 0 where
  pub is0 : CosetCost b false false p r.c0
  pub is1 : CosetCost b false true p r.c1
  pub is2 : CosetCost b true false p r.c2
  pub is3 : CosetCost b true true p r.c3

-- the squared distances of the two points of a 1-bit tone
pub record OneCostsOf (p : Point) (r : Costs) : Type 0 where
  pub is0 : squared_distance p (point_of 1 (false ∷ [])) ≡ r.c0
  pub is1 : squared_distance p (point_of 1 (true ∷ [])) ≡ r.c3

-- ---- what the steps find, whatever the bits are that they have the shape of

pub record NearestBy (h : Shape) (s : Received) (v1 v0 : ℕ) (r : Near) : Type 0 where
  pub nearest : (b : ℕ) → 2 ≤ b → b ≤ 15 → ShapeOf b h → (w1 w0 : Bool) → v1 ≡ weight w1 → v0 ≡ weight w0
      → (p : Point) → RaisedPoint p s.x s.y → Nearest b w1 w0 p (2 * r.u + 1) (2 * r.w + 1) r.cost
  pub u_small : r.u < 1024
  pub w_small : r.w < 1024

-- no cost is larger
pub record SmallCosts (r : Costs) : Type 0 where
  pub small0 : r.c0 ≤ 8_388_608
  pub small1 : r.c1 ≤ 8_388_608
  pub small2 : r.c2 ≤ 8_388_608
  pub small3 : r.c3 ≤ 8_388_608

pub record CostsFor (h : Shape) (s : Received) (r : Costs) : Type 0 where
  pub costs : (b : ℕ) → 2 ≤ b → b ≤ 15 → ShapeOf b h → (p : Point) → RaisedPoint p s.x s.y → CostsOf b p r
  pub small : SmallCosts r
