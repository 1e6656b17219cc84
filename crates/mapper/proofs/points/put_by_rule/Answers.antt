use native.Mathlib.Omega.{arith}
use Rattle.mapper.proofs.points.put_by_rule.Goals as goal

pub point_by-p-requires : goal.point_by-p-requires
point_by-p-requires c =
    c.requires.mappable c.loop-i.i (omega (arith, c.loop-i.invariant.xs_length))
