-- `mapper::points::put_block` meets its contract: by the rule where the table has not all points, from the table where it has some.
use native.Mathlib.Omega.{arith}
use mathlib.Core.Path.{refl}
use Rattle.mapper.proofs.BlockLoops.{Ruled, still_needs, none_stored}
use Rattle.mapper.proofs.points.put_block.Goals as goal
use Rattle.mapper.proofs.points.put_block.Goals.{Joined-stored-xs, else-stored-xs, then-stored-xs}

ruled : (c : Joined-stored-xs) → Ruled c.args.layouts.now c.args.labels.now c.from-stored.result c.args.xs.now c.args.ys.now c.if-stored-xs.xs c.if-stored-xs.ys
ruled c =
    elim c.if-stored-xs.branch [
      | then-stored-xs w ↦ record { xs_length = rw w.xs-is w.put_by_rule.auto.xs; ys_length = rw w.ys-is w.put_by_rule.auto.ys; points = λ h. rw (w.xs-is, w.ys-is) w.put_by_rule.ensures }
      | else-stored-xs w ↦ record { xs_length = rw w.xs-is refl; ys_length = rw w.ys-is refl; points = λ h. absurd (omega (arith, h, w.if-stored-xs.false)) }
    ]

pub put_from_table-requires : goal.put_from_table-requires
put_from_table-requires c =
    still_needs c.requires.0 (ruled (goal.at.put_from_table-requires c).Joined-stored-xs)

pub returns-else-stored-gt0 : goal.returns-else-stored-gt0
returns-else-stored-gt0 c =
    none_stored c.requires.0 (ruled (goal.at.returns-else-stored-gt0 c).Joined-stored-xs) (rw (← c.from-stored.ensures) at c.count_stored.ensures) (omega arith)
