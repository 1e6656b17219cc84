-- `constellation::single::narrowed_word` meets its contract: the table undoes what widens each of the 32 top fives.
use mathlib.Core.Path.{refl}
use Rattle.g9932.specs.Bits.{first}
use Rattle.constellation.specs.Widened.{top_four}
use Rattle.constellation.proofs.Tops.{narrowed_law}
use Rattle.constellation.proofs.single.narrowed_word.Goals as goal

pub returns : goal.returns
unfolding first top_four
returns c = narrowed_law _ refl c.args.k c.args.word c.args.six c.requires.0 c.requires.2
