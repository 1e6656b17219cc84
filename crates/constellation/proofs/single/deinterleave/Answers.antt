-- `constellation::single::deinterleave` meets its contract: four steps on the list of its bits.
use Rattle.constellation.proofs.Halves.{deinterleave_law}
use Rattle.constellation.proofs.single.deinterleave.Goals as goal

pub returns : goal.returns
returns c = deinterleave_law c.args.word c.requires
