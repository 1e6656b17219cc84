-- Points and gains to the numbers that are driven, by place.
use Rattle.std.specs.Prelude.{Option, None, Some}
use Rattle.std.specs.Prelude.{ℕ, ◌≤◌, ◌<◌, cond, List, ◌≡◌, ℤ, pos, nat_abs, ◌*ℤ◌, Float, length, get_or}
use Rattle.std.specs.Float.{nan}
use Rattle.g9932.specs.Drive.{gained, signal_of, x_of, y_of}
use Rattle.g9932.specs.Points.{same_int}
use Rattle.g9932.specs.Sizes.{entry, Point, point_at}

-- a gain and a point whose products have at most 24 binary digits
pub record Drivable (g : ℕ) (p : Point) : Type 0 where
  pub gain_most : g ≤ 4095
  pub x_most : nat_abs p.px ≤ 1023
  pub y_most : nat_abs p.py ≤ 1023

-- 512 times what is driven at a place: silent where gain times X is 0
abbrev pub whole_by : ℕ → Point → Option Point
whole_by g p = cond (same_int (pos g *ℤ p.px) (pos 0)) None (Some (gained g p))

pub record PutNeeds (points_x points_y : List ℤ) (gains : List ℕ) (xs ys : List Float) : Type 0 where
  pub points_x_length : length points_x ≡ length xs
  pub points_y_length : length points_y ≡ length xs
  pub gains_length : length gains ≡ length xs
  pub ys_length : length ys ≡ length xs
  pub drivable : (i : ℕ) → i < length xs → Drivable (entry gains i) (point_at points_x points_y i)

pub record PutsNumbers (points_x points_y : List ℤ) (gains : List ℕ) (xs ys : List Float) : Type 0 where
  pub xs_are : (i : ℕ) → i < length xs → get_or xs i nan ≡ x_of (signal_of (whole_by (entry gains i) (point_at points_x points_y i)))
  pub ys_are : (i : ℕ) → i < length xs → get_or ys i nan ≡ y_of (signal_of (whole_by (entry gains i) (point_at points_x points_y i)))
