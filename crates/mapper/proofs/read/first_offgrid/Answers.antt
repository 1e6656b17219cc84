use borrow.Author.Count.{below_more}
use native.Mathlib.Omega.{arith}
use Rattle.mapper.proofs.read.first_offgrid.Goals as goal

pub loop-i-preserved : goal.loop-i-preserved
loop-i-preserved c =
    (omega arith, below_more _ c.loop-i.i c.loop-i.invariant.1 (rw (c.if-not-on_grid.false) at c.on_grid.ensures))
