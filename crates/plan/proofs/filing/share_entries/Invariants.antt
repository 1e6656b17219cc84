-- `plan::filing::share_entries` meets its contract. The invariant: j shared entries stand behind the lists as they came.
use Rattle.plan.specs.Plan.{Shares}
use Rattle.plan.proofs.filing.share_entries.Given as goal

abbrev pub invariant-loop-j : goal.invariant-loop-j
invariant-loop-j l = Shares l.layout l.at.place.0 l.j l.at.entry l.initial.room l.room
