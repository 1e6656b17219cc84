-- `nearest::read` meets its contract: refused by the tables or by the inputs, or read from the plan.
use Rattle.g9932.specs.Sizes.{tables_of}
use Rattle.nearest.proofs.WholeNearest.{nearest_refused}
use Rattle.nearest.proofs.read.Goals as goal

pub returns-in-Err : goal.returns-in-Err
returns-in-Err c = nearest_refused _ _ _ c.args.register c.args.start _ _ _ c.in-Err.ensures.answer

pub read_planned-requires : goal.read_planned-requires
read_planned-requires c = (tables_of c.args.mode c.args.t, record { plans = c.in-Ok.ensures })

pub returns-in-Ok : goal.returns-in-Ok
returns-in-Ok c = c.read_planned.ensures (tables_of c.args.mode c.args.t) (record { plans = c.in-Ok.ensures })
