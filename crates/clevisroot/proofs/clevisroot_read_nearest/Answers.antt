-- `clevisroot_read_nearest` meets its contract: what nearest reading answers in the mode of `coded`, as C has it.
use Rattle.clevisroot.proofs.Calls.{nearest_small, nearest_answered}
use Rattle.clevisroot.proofs.clevisroot_read_nearest.Goals as goal

pub nearest_answered-requires : goal.nearest_answered-requires
nearest_answered-requires c = nearest_small _ _ _ c.mode_of.ensures c.read.ensures

pub returns : goal.returns
returns c = nearest_answered _ _ _ c.mode_of.ensures c.read.ensures c.nearest_answered.ensures
