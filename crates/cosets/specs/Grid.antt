-- Points on the grid of odd numbers: the coordinate 2 u − 1,023 has the place u, so 2 u + 1 is it raised by 1,024.
use Rattle.std.specs.Prelude.{ℕ, ◌+◌, ◌-◌, ◌*◌, ◌/◌, ◌%◌, ◌^◌, ◌≤◌, ◌<◌, ◌≡◌, eqb}
use Rattle.constellation.specs.Layouts.{layout_of}
use Rattle.cosets.specs.declared.Near.{Near}
use Rattle.cosets.specs.declared.given.Shape.{Shape}
use Rattle.cosets.specs.declared.Sides.{Sides}

-- a of the places on each side of the origin
pub record Within (a u : ℕ) : Type 0 where
  pub left : 512 ≤ u + a
  pub right : u < 512 + a

-- |m − n|
abbrev pub gap : ℕ → ℕ → ℕ
gap m n = m - n + (n - m)

-- the squared distance of a raised coordinate from a place
abbrev pub square : ℕ → ℕ → ℕ
square x u = gap x (2 * u + 1) * gap x (2 * u + 1)

-- the nearest place of a parity
pub record NearestPlace (x a low r : ℕ) : Type 0 where
  pub parity : r % 2 ≡ low
  pub within : Within a r
  pub least : (u : ℕ) → u % 2 ≡ low → Within a u → gap x (2 * r + 1) ≤ gap x (2 * u + 1)

-- the nearest of a rectangle
pub record NearestIn (x y ax ay v1 v0 : ℕ) (r : Near) : Type 0 where
  pub parity_x : r.u % 2 ≡ v1
  pub parity_y : r.w % 2 ≡ v0
  pub within_x : Within ax r.u
  pub within_y : Within ay r.w
  pub cost : r.cost ≡ square x r.u + square y r.w
  pub least : (u w : ℕ) → u % 2 ≡ v1 → w % 2 ≡ v0 → Within ax u → Within ay w → r.cost ≤ square x u + square y w

-- the half sides of the two rectangles whose union the points of b bits are (of 3 bits, one of the two by the lowest bits)
abbrev pub inner : ℕ → ℕ
inner b = 2 ^ (b / 2 - 1)

abbrev pub outer : ℕ → ℕ
outer b = inner b + b % 2 * ((inner b + 1) / 2)

-- the squared distance from the nearest place of a parity
pub record SquareTo (x a low d : ℕ) : Type 0 where
  pub u : ℕ
  pub near : NearestPlace x a low u
  pub is : d ≡ square x u
  pub small : d ≤ 4194304

pub record SidesOf (x a c : ℕ) (r : Sides) : Type 0 where
  pub inner0 : SquareTo x a 0 r.inner0
  pub inner1 : SquareTo x a 1 r.inner1
  pub outer0 : SquareTo x c 0 r.outer0
  pub outer1 : SquareTo x c 1 r.outer1

-- ---- a constellation's shape, from its layout

-- that of b bits
pub record ShapeOf (b : ℕ) (h : Shape) : Type 0 where
  pub inner_is : h.inner ≡ inner b
  pub outer_is : h.outer ≡ outer b
  pub three_is : h.three ≡ eqb b 3

-- by layout, whatever the bits are that it is the layout of; 1 bit has the shape of 2
pub record Sided (layout : ℕ) (h : Shape) : Type 0 where
  pub shaped : (b : ℕ) → 2 ≤ b → b ≤ 15 → layout ≡ layout_of b → ShapeOf b h
  pub one : layout ≡ layout_of 1 → ShapeOf 2 h
