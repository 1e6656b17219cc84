-- `drive::peaks::larger_of` meets its contract.
use Rattle.drive.proofs.Sizes.{larger_by_max}
use Rattle.drive.proofs.peaks.larger_of.Goals as goal

pub returns : goal.returns
returns c =
    let m = c.max.ensures in
    larger_by_max c.abs.ensures.value c.abs-2.ensures.value m.value m.self_bound m.other_bound
