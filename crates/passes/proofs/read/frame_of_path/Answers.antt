-- `passes::read::frame_of_path` meets its contract, by the mode.
use Rattle.passes.proofs.ReadPlaces.{collected, path_read}
use mathlib.Core.Path.{refl}
use Rattle.passes.proofs.read.frame_of_path.Goals as goal
use Rattle.passes.proofs.read.frame_of_path.Goals.{in-Uncoded, in-Coded}

pub returns : goal.returns
returns c =
    elim c.match-plan.branch [
      | in-Uncoded w ↦
          let e = rw c.starting_at-empty.ensures at w.collect_labels-w.ensures in
          record { framed = λ _. (collected c.requires w.in-Uncoded.is e w.collect_labels-w.auto.frame (rw w.held-is at c.finish.auto.bytes) (rw (w.w-is, w.held-is) at c.finish.ensures)).framed refl }
      | in-Coded w ↦
          let e = rw c.starting_at-empty.ensures at w.collect_pairs-w.ensures in
          path_read c.requires w.in-Coded.is e w.collect_pairs-w.auto.frame (rw w.held-is at c.finish.auto.bytes) (rw (w.w-is, w.held-is) at c.finish.ensures)
    ]
