-- Bounds under which no number leaves its type: points of up to 15 bits are within 1,023 and the corners of their blocks within 4,095; the
-- corner of any coordinate of sixteen bits is within 32,766; labels are below 32,768.
use Rattle.std.specs.Prelude.{Option, None, Some}
use Rattle.std.specs.Prelude.{ℕ, ◌<◌, ◌≤◌}
use Rattle.std.specs.Int.Signed.{mag}
use Rattle.g9932.specs.Sizes.{Point}

-- what is found, if anything, is below n
abbrev pub Below : ℕ → Option ℕ → Type 0
Below n (Some k) = k < n
Below n None = Unit {0}

-- coordinates from −n − 1 to n
abbrev pub Within : ℕ → Point → Type 0
Within n p = (mag p.px ≤ n) × (mag p.py ≤ n)
