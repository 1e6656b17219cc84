-- `clevisroot_reorder` meets its contract: what re-ordering answers in the mode of `coded`, as C has it.
use Rattle.clevisroot.proofs.Calls.{order_small}
use Rattle.clevisroot.proofs.clevisroot_reorder.Goals as goal

pub checked-requires : goal.checked-requires
checked-requires c = order_small _ _ _ c.mode_of.ensures c.reorder.ensures
