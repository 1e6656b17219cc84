-- `trellis::encode_labels` meets its contract: an odd count of entries begins with the pair of a 0 and the first entry, an even one
-- with the first two.
use Rattle.trellis.proofs.CodeAll.{odd_coded}
use Rattle.frame.specs.Labels.{labels_at}
use Rattle.frame.proofs.Labels.{placed_length}
use Rattle.trellis.proofs.encode_labels.Goals as goal

pub returns-then-entries-eq1 : goal.returns-then-entries-eq1
returns-then-entries-eq1 c =
    odd_coded c.args.frame.now c.args.start c.args.entries.bits.now (labels_at c.args.entries.places.now c.args.labels.now) c.requires.0 (placed_length c.requires.1) c.entry.result c.if-entries-eq1.true c.entry.ensures c.code_first-first.result c.code_first-first.ensures
    (labels_at c.args.entries.places.now c.code_from.new.labels) (rw c.put_entry.ensures at c.code_from.ensures)
