use native.Mathlib.Omega.{arith}
use Rattle.mapper.proofs.CollectLoop.{collect_step}
use Rattle.mapper.proofs.read.collect_labels.Goals as goal

pub loop-j-preserved : goal.loop-j-preserved
loop-j-preserved c =
    let put = rw (c.from.ensures, c.from-in-loop-j.ensures, c.label_at-label.ensures, c.place_at.ensures) at c.put-w.ensures in
    collect_step c.requires c.loop-j.invariant (omega arith) c.put-w.result c.put-w.new.bytes c.put-w.auto.bytes put
