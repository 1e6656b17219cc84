-- `frame::ahead_near_end` meets its contract: a shift of the five bytes.
use native.Mathlib.Omega.{arith}
use Rattle.frame.proofs.BitsAhead.{ahead_law}
use Rattle.frame.proofs.ahead_near_end.Goals as goal

pub returns : goal.returns
returns c = ahead_law c.args.bytes.now c.args.at 40 c.word40.result (omega arith) c.word40.ensures
