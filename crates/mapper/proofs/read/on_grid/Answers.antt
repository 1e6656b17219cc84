-- `mapper::read::on_grid` meets its contract: a list of one place is demapped.
use mathlib.Core.Path.{refl}
use Rattle.mapper.proofs.PointLoop.{one_needs, one_found}
use Rattle.mapper.proofs.read.on_grid.Goals as goal

pub demap_all-requires : goal.demap_all-requires
demap_all-requires c =
    one_needs c.args.layouts.now c.args.points.xs.now c.args.points.ys.now c.args.p.0 c.requires.0 c.requires.1 _ refl

pub returns : goal.returns
returns c =
    one_found c.args.layouts.now c.args.points.xs.now c.args.points.ys.now c.args.p.0 c.requires.0 c.requires.1 c.demap_all.new.labels c.demap_all.result c.demap_all.ensures
