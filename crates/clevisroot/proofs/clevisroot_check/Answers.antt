-- `clevisroot_check` meets its contract: what checking answers in the mode of `coded`, as C has it.
use Rattle.clevisroot.proofs.Calls.{checked_small}
use Rattle.clevisroot.proofs.clevisroot_check.Goals as goal

pub checked-requires : goal.checked-requires
checked-requires c =
    checked_small c.args.bits.now c.args.gains.now c.args.tones.now c.mode_of.ensures c.check_tables.result c.check_tables.ensures
