-- `plain_mapper::small_label` meets its contract. The invariant: no label so far has the point.
use Rattle.std.specs.Prelude.{None}
use mathlib.Core.Path.{◌≡◌}
use Rattle.g9932.specs.Bits.{first}
use Rattle.g9932.specs.Plain.{small_point}
use Rattle.g9932.specs.Points.{same_point}
use Rattle.g9932.specs.Sizes.{point}
use Rattle.plain_mapper.proofs.small_label.Given as goal

abbrev pub invariant-loop-label : goal.invariant-loop-label
invariant-loop-label l = first (λ k. same_point (small_point l.b k) (point l.p.x l.p.y)) l.label ≡ None
