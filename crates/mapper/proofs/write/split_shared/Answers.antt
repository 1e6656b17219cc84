use native.Mathlib.Omega.{arith}
use Rattle.mapper.proofs.SharedLabels.{split_step, split_end}
use Rattle.mapper.proofs.write.split_shared.Goals as goal

pub loop-i-preserved : goal.loop-i-preserved
loop-i-preserved c =
    split_step c.loop-i.labels c.loop-i.i (omega arith) c.loop-i.invariant

pub returns : goal.returns
returns c = split_end c.loop-i.invariant (omega arith)

pub returns-2 : goal.returns-2
returns-2 c =
    let g = split_step c.loop-i.labels c.loop-i.i (omega arith) c.loop-i.invariant in
    split_end g (omega (arith, g.labels_length))
