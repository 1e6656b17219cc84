-- `draw_answered` meets its contract: the bit as a number.
use Rattle.g9932.proofs.Words.{byte_weight}
use Rattle.clevisroot.proofs.draw_answered.Goals as goal

pub returns-in-Ok : goal.returns-in-Ok
returns-in-Ok c = rw (c.in-Ok.is, c.from.ensures, byte_weight c.in-Ok.field-0.bit)
