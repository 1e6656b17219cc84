-- `frame::word64` meets its contract: eight bytes, the first lowest.
use Rattle.frame.proofs.BitsAhead.{num_word64}
use Rattle.frame.proofs.word64.Goals as goal

pub returns : goal.returns
returns c = num_word64 c.args.bytes.now (λ k. (c.type_inv.bytes k).fits) c.args.i _ c.from_le_bytes.ensures c.from_le_bytes.type_inv
