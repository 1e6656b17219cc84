-- `mapper::read::demap_points` meets its contract: a point is on a tone's constellation or off it, so the search finds what `demap_all` met.
use Rattle.mapper.proofs.PointLoop.{all_on, some_off}
use Rattle.mapper.proofs.read.demap_points.Goals as goal

pub returns-then-demap_all : goal.returns-then-demap_all
returns-then-demap_all c = all_on c.demap_all.ensures c.if-demap_all.true

pub returns : goal.returns
returns c =
    some_off c.demap_all.ensures c.requires.points c.if-demap_all.false c.first_offgrid.result c.first_offgrid.ensures
