-- `constellation::map_label` meets its contract: the tests of refusal 16, then the point.
use mathlib.Core.Path.{sym, ap, ◌∙◌}
use native.Mathlib.Omega.{arith}
use Rattle.g9932.specs.Answers.{tone_done}
use Rattle.g9932.proofs.OneTone.{map_below, map_above, map_large, map_done}
use Rattle.constellation.proofs.Lanes.{shl_one}
use Rattle.constellation.proofs.map_label.Goals as goal
use Rattle.constellation.proofs.map_label.Goals.{then-bits-lt1-via-then-bits-lt1, then-bits-lt1-via-else-bits-lt1+then-bits-gt15, then-bits-lt1-via-else-bits-lt1+else-bits-gt15+then-bits-label}

pub returns-then-bits-lt1 : goal.returns-then-bits-lt1
returns-then-bits-lt1 c =
    let a = c.args in
    elim c.then-bits-lt1.branch [
      | then-bits-lt1-via-then-bits-lt1 w ↦ sym (map_below a.bits a.label w.if-bits-lt1.true)
      | then-bits-lt1-via-else-bits-lt1+then-bits-gt15 w ↦ sym (map_above a.bits a.label w.if-bits-gt15.true)
      | then-bits-lt1-via-else-bits-lt1+else-bits-gt15+then-bits-label w ↦
          sym (map_large a.bits a.label (omega arith) (omega arith) (rw (shl_one a.bits (omega arith)) at w.if-bits-label.true))
    ]

pub returns : goal.returns
returns c =
    let t = rw (shl_one c.args.bits (omega arith)) at c.if-bits-label.false in
    ap tone_done c.point_of.ensures ∙ sym (map_done c.args.bits c.args.label (omega arith) (omega arith) t)
