use native.Mathlib.Omega.{arith}
use Rattle.mapper.proofs.FillerLoop.{check_step, check_end}
use Rattle.mapper.proofs.read.check_filler.Goals as goal

pub loop-place-preserved : goal.loop-place-preserved
loop-place-preserved c =
    rw (c.or_here-monitor.ensures, c.from-in-loop-place.ensures, c.label_at.ensures, c.is_silent-silent.ensures, c.from.ensures)
    (check_step c.loop-place.invariant (omega arith) c.filler_label-f.result.label c.filler_label-f.result.register c.filler_label-f.ensures.label c.filler_label-f.ensures.register)

pub returns : goal.returns
returns c = check_end c.loop-place.invariant (omega arith)
