-- `constellation::map::evens` meets its contract: four steps on the list of its bits.
use native.Mathlib.Omega.{arith}
use Rattle.constellation.proofs.MapByLayout.{evens_law}
use Rattle.constellation.proofs.map.evens.Goals as goal

pub returns : goal.returns
returns c = evens_law c.args.word (omega arith)
