-- `clevisroot_read` meets its contract: what reading answers from bit 0 on in the mode of `coded`, as C has it.
use Rattle.clevisroot.proofs.Calls.{read_small, read_at_lem, read_answered}
use Rattle.clevisroot.proofs.clevisroot_read.Goals as goal

pub answered-requires : goal.answered-requires
answered-requires c = read_small _ _ _ c.mode_of.ensures c.read.ensures

pub returns : goal.returns
returns c = read_answered (read_at_lem _ _ _ c.mode_of.ensures c.read.ensures c.answered.ensures)
