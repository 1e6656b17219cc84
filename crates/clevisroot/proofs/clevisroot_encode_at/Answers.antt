-- `clevisroot_encode_at` meets its contract: what encoding answers from any start in the mode of `coded`, as C has it.
use Rattle.clevisroot.proofs.Calls.{encode_small}
use Rattle.clevisroot.proofs.clevisroot_encode_at.Goals as goal

pub answered-requires : goal.answered-requires
answered-requires c = encode_small _ _ _ c.mode_of.ensures c.encode.ensures
