-- `clevisroot_clip_check` meets its contract: what the clip check answers of coded tables, as C has it.
use Rattle.g9932.specs.Sizes.{tables}
use Rattle.g9932.specs.declared.Mode.TheVariants.{Coded}
use Rattle.clevisroot.proofs.Calls.{clip_small}
use Rattle.clevisroot.proofs.clevisroot_clip_check.Goals as goal

pub clip_answered-requires : goal.clip_answered-requires
clip_answered-requires c =
    clip_small (tables Coded c.args.bits.now c.args.gains.now c.args.tones.now) c.args.x.now c.args.y.now c.args.reg c.check.result c.check.ensures
