use Rattle.std.proofs.Common.{arith}
use Rattle.tally.proofs.Rows.{part_more}
use Rattle.tally.proofs.wrong_bits.add_row.Goals as goal

pub loop-j-preserved : goal.loop-j-preserved
loop-j-preserved c =
    part_more c.loop-j.invariant c.requires.same_length (omega arith) (omega arith) c.wrong_in_byte.ensures.counted c.wrong_in_byte.ensures.most
