-- `trellis::put_entry` meets its contract: a label put at the place of an entry.
use Prim.Native.Nat.{ℕ}
use mathlib.Core.Path.{ap, ◌∙◌}
use lib.ListN.{set}
use Rattle.frame.specs.Labels.{labels_at}
use Rattle.frame.proofs.Labels.{at_set}
use Rattle.trellis.proofs.put_entry.Goals as goal

pub returns : goal.returns
returns c =
    ap (labels_at c.args.places.now) (c.put_label.ensures ∙ ap (λ (p : ℕ). set c.args.labels.now p c.args.label) c.place_at.ensures)
    ∙ at_set c.args.places.now c.args.labels.now c.args.i c.args.label c.requires.2 c.requires.0
