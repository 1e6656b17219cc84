-- `nearest::decide_labels` meets its contract: costs, then the lowest bits by them, then the labels by these.
use Rattle.nearest.proofs.PlannedReading.{low_needs, decided}
use Rattle.nearest.proofs.decide_labels.Goals as goal

pub decide_low-total-requires : goal.decide_low-total-requires
decide_low-total-requires c = low_needs c.requires.1 c.cost_places.ensures.costs

pub returns : goal.returns
returns c = λ es d. decided d c.cost_places.ensures.costs _ _ _ c.decide_low-total.ensures c.label_places.ensures
