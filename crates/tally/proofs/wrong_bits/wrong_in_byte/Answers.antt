-- `wrong_bits::wrong_in_byte` meets its contract: of eight bits at most eight are ones.
use lib.Bits.{xor_lt}
use lib.Count.{ones-le}
use Rattle.tally.proofs.wrong_bits.wrong_in_byte.Goals as goal

pub returns-clause-most : goal.returns-clause-most
returns-clause-most c = ones-le 8 _ (xor_lt 8 _ _ c.ranges.sent.fits c.ranges.read.fits)
