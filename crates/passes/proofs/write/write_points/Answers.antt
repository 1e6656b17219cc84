-- `passes::write::write_points` meets its contract: shared labels split, filler bits set, and the points are those of the labels.
use Rattle.passes.proofs.WritePoints.{filler_needs, put_needs, written}
use Rattle.passes.proofs.write.write_points.Goals as goal

pub set_filler-after-requires : goal.set_filler-after-requires
set_filler-after-requires c = rw c.split_shared.ensures (filler_needs c.requires.4)

pub put_points-requires : goal.put_points-requires
put_points-requires c =
    let f = c.set_filler-after.ensures.labels_are in
    rw (f, c.split_shared.ensures) (put_needs c.requires.4 c.args.register)

pub returns : goal.returns
returns c =
    let f = c.set_filler-after.ensures in
    λ cs d es ps w. written w c.args.register f.register_is c.put_points.auto.xs c.put_points.auto.ys (rw (f.labels_are, c.split_shared.ensures) at c.put_points.ensures)
