-- `frame::word40` meets its contract: five bytes, those past the end 0.
use Rattle.frame.proofs.BitsAhead.{num_word40}
use native.Mathlib.Omega.{arith}
use Rattle.frame.proofs.word40.Goals as goal

pub returns : goal.returns
returns c = num_word40 c.args.bytes.now (λ k. (c.type_inv.bytes k).fits) c.args.i _ (omega arith)
