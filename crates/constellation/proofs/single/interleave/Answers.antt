-- `constellation::single::interleave` meets its contract: four steps on the list of its bits.
use Rattle.constellation.proofs.Halves.{interleave_law}
use Rattle.constellation.proofs.single.interleave.Goals as goal

pub returns : goal.returns
returns c = interleave_law c.args.x c.args.y c.requires.0 c.requires.1
