-- `passes::read::frame_of_labels` meets its contract, by the mode.
use Rattle.g9932.proofs.Verdicts.{passed_on}
use Rattle.passes.proofs.ReadPlaces.{collected, broken_found, none_broken}
use Rattle.passes.proofs.read.frame_of_labels.Goals as goal
use Rattle.passes.proofs.read.frame_of_labels.Goals.{in-Uncoded, in-Coded+in_ok-w-in-Coded}

pub returns-in_err-w-in-Coded : goal.returns-in_err-w-in-Coded
returns-in_err-w-in-Coded c =
    rw (passed_on c.from_residual.result c.from_residual.ensures.1) (broken_found c.requires c.in-Coded.is c.read_labels.new.frame _ c.in_err-w-in-Coded.ensures)

pub returns : goal.returns
returns c =
    elim c.match-plan.branch [
      | in-Uncoded w ↦
          let e = rw c.starting_at-first.ensures at w.collect_labels-w.ensures in
          collected c.requires w.in-Uncoded.is e w.collect_labels-w.auto.frame (rw w.held-is at c.finish.auto.bytes) (rw (w.w-is, w.held-is) at c.finish.ensures)
      | in-Coded+in_ok-w-in-Coded w ↦
          let e = rw c.starting_at-first.ensures at w.in_ok-w-in-Coded.ensures in
          none_broken c.requires w.in-Coded.is e w.read_labels.auto.frame (rw w.held-is at c.finish.auto.bytes) (rw (w.w-is, w.held-is) at c.finish.ensures)
    ]
