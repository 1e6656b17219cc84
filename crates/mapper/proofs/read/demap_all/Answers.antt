use native.Mathlib.Omega.{arith}
use Rattle.g9932.specs.Sizes.{entry}
use Rattle.constellation.proofs.DemapByLayout.{is_layout}
use Rattle.mapper.proofs.PointLoop.{demap_step}
use Rattle.mapper.proofs.read.demap_all.Goals as goal

pub label_by-label-requires : goal.label_by-label-requires
label_by-label-requires c =
    let i = c.loop-i.i in
    is_layout (entry c.args.layouts.now i) (c.requires.points.of_tones i (omega arith))

pub loop-i-preserved : goal.loop-i-preserved
loop-i-preserved c =
    demap_step c.loop-i.invariant (omega arith) c.label_by-label.result (rw c.at.ensures at c.label_by-label.ensures)
    c.unwrap_or.result c.unwrap_or.ensures c.is_some-all.result c.is_some-all.ensures
