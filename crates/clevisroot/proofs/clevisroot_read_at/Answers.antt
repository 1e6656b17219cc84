-- `clevisroot_read_at` meets its contract: what reading answers from any start in the mode of `coded`, as C has it.
use Rattle.clevisroot.proofs.Calls.{read_small}
use Rattle.clevisroot.proofs.clevisroot_read_at.Goals as goal

pub answered-requires : goal.answered-requires
answered-requires c = read_small _ _ _ c.mode_of.ensures c.read.ensures
