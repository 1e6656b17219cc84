-- `frame::ahead_inside` meets its contract: a shift of the eight bytes.
use native.Mathlib.Omega.{arith}
use Rattle.frame.proofs.BitsAhead.{ahead_law}
use Rattle.frame.proofs.ahead_inside.Goals as goal

pub returns : goal.returns
returns c = ahead_law c.args.bytes.now c.args.at 64 c.word64.result (omega arith) c.word64.ensures
