-- `constellation::demap::spread_byte` meets its contract, for each of the 256 numbers.
use Rattle.constellation.proofs.Spread.{spread_byte_lem}
use Rattle.constellation.proofs.demap.spread_byte.Goals as goal

pub returns : goal.returns
returns c = spread_byte_lem c.args.e c.requires
