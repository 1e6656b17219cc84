use native.Mathlib.Omega.{arith}
use Rattle.mapper.proofs.SharedLabels.{join_step, join_needs, join_end}
use Rattle.mapper.proofs.read.join_shared.Goals as goal

pub loop-i-preserved : goal.loop-i-preserved
loop-i-preserved c =
    (join_needs c.loop-i.labels c.loop-i.i (omega arith) c.loop-i.invariant.0, join_step c.loop-i.labels c.loop-i.i (omega arith) c.loop-i.invariant.1)

pub returns : goal.returns
returns c = join_end c.loop-i.invariant.1 (omega arith)

pub returns-2 : goal.returns-2
returns-2 c =
    let g = join_step c.loop-i.labels c.loop-i.i (omega arith) c.loop-i.invariant.1 in
    join_end g (omega (arith, g.labels_length))
