-- The answers of the one-tone calls, test by test: 16 for the bit count, in mapping 16 for the label, else the point, or the label or 13.
use Prim.Native.Nat.{ℕ, ◌^◌, ◌≤◌, ◌<◌}
use mathlib.Core.Path.{◌≡◌}
use borrow.Author.Tests.{lt-ltb, le-ltb, le-leb, lt-leb}
use native.Mathlib.Omega.{arith}
use Rattle.g9932.specs.Answers.{tone_refused, tone_done, map_label, label_found, read_point}
use Rattle.g9932.specs.Bits.{bits}
use Rattle.g9932.specs.Points.{point_of, label_of}
use Rattle.g9932.specs.Sizes.{Point}

module _ (b l : ℕ) where
  pub map_below : b < 1 → map_label b l ≡ tone_refused 16
  unfolding map_label
  map_below h = rw (lt-ltb b 1 h)

  pub map_above : 15 < b → map_label b l ≡ tone_refused 16
  unfolding map_label
  map_above h = rw (le-ltb b 1 (omega arith), lt-ltb 15 b h)

  pub map_large : 1 ≤ b → b ≤ 15 → 2 ^ b ≤ l → map_label b l ≡ tone_refused 16
  unfolding map_label
  map_large h k m = rw (le-ltb b 1 h, le-ltb 15 b k, le-leb (2 ^ b) l m)

  pub map_done : 1 ≤ b → b ≤ 15 → l < 2 ^ b → map_label b l ≡ tone_done (point_of b (bits b l))
  unfolding map_label
  map_done h k m = rw (le-ltb b 1 h, le-ltb 15 b k, lt-leb (2 ^ b) l m)

module _ (b : ℕ) (p : Point) where
  pub read_below : b < 1 → read_point b p ≡ tone_refused 16
  unfolding read_point
  read_below h = rw (lt-ltb b 1 h)

  pub read_above : 15 < b → read_point b p ≡ tone_refused 16
  unfolding read_point
  read_above h = rw (le-ltb b 1 (omega arith), lt-ltb 15 b h)

  pub read_counted : 1 ≤ b → b ≤ 15 → read_point b p ≡ label_found (label_of b p)
  unfolding read_point
  read_counted h k = rw (le-ltb b 1 h, le-ltb 15 b k)
