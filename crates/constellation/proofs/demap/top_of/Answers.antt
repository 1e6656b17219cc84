-- `constellation::demap::top_of` meets its contract: each of the top six bits is tried.
use Rattle.constellation.proofs.TopBits.{tops_law}
use Rattle.constellation.proofs.demap.top_of.Goals as goal

pub returns : goal.returns
returns c =
    tops_law c.args.layout c.args.six c.pick-x_near.result c.pick-y_near.result c.requires c.pick-x_near.ensures c.pick-y_near.ensures
