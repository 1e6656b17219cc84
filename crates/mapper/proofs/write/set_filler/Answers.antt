use native.Mathlib.Omega.{arith}
use Rattle.mapper.proofs.FillerLoop.{drawn_small, fill_step}
use Rattle.mapper.proofs.write.set_filler.Goals as goal

pub overflow_cast-f : goal.overflow_cast-f
overflow_cast-f c =
    omega (arith, c.filler_label-f.ensures.label, drawn_small c.loop-place.next)

pub loop-place-preserved : goal.loop-place-preserved
loop-place-preserved c =
    rw (c.put_label.ensures, c.from.ensures)
    (fill_step c.loop-place.invariant (omega arith) c.filler_label-f.result.label c.filler_label-f.result.register c.filler_label-f.ensures.label c.filler_label-f.ensures.register)
