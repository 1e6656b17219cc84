-- `drive::numbers::put_numbers` meets its contract. The invariant: each place before i has its numbers.
use Prim.Native.Nat.{ℕ}
use mathlib.Core.List.{List}
use mathlib.Core.Path.{◌≡◌}
use lib.Ieee.{Float}
use lib.IntN.{ℤ}
use Rattle.g9932.specs.Drive.{signal_of, x_of, y_of}
use Rattle.g9932.specs.Sizes.{entry, point_at}
use Rattle.drive.specs.Numbers.{whole_by}
use Rattle.drive.proofs.NumberLoop.{Putting}
use Rattle.drive.proofs.numbers.put_numbers.Given as goal

abbrev pub driven : List ℤ → List ℤ → List ℕ → ℕ → Float → Float → Type 0
driven px py gains j x y = (x ≡ x_of (signal_of (whole_by (entry gains j) (point_at px py j)))) × (y ≡ y_of (signal_of (whole_by (entry gains j) (point_at px py j))))

abbrev pub invariant-loop-i : goal.invariant-loop-i
invariant-loop-i l = Putting (driven l.points.xs.now l.points.ys.now l.gains) l.initial.xs l.xs l.ys l.i
