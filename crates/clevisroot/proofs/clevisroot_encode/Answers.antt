-- `clevisroot_encode` meets its contract: what encoding answers from bit 0 on in the mode of `coded`, as C has it.
use Rattle.clevisroot.proofs.Calls.{encode_small, encode_at_lem, encode_answered}
use Rattle.clevisroot.proofs.clevisroot_encode.Goals as goal

pub answered-requires : goal.answered-requires
answered-requires c = encode_small _ _ _ c.mode_of.ensures c.encode.ensures

pub returns : goal.returns
returns c = encode_answered (encode_at_lem _ _ _ c.mode_of.ensures c.encode.ensures c.answered.ensures)
