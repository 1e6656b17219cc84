use mathlib.Core.Path.{◌∙◌}
use native.Mathlib.Omega.{arith}
use Rattle.mapper.proofs.CutLoop.{cut_step}
use Rattle.mapper.proofs.write.cut_labels.Goals as goal

pub loop-j-preserved : goal.loop-j-preserved
loop-j-preserved c =
    let got = c.lowest-label.ensures.0 ∙ c.ahead.ensures _ (omega (arith, c.requires.counts c.loop-j.j)) in
    rw (c.put_label.ensures, c.place_at.ensures, got, c.from-n.ensures) (cut_step c.requires c.loop-j.invariant (omega arith))
