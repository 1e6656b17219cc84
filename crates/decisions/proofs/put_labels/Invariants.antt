-- `decisions::put_labels` meets its contract. The invariant: the places before i have their labels, the others what stood there.
use Rattle.decisions.specs.Deciding.{PutsLabels}
use Rattle.decisions.proofs.put_labels.Given as goal

abbrev pub invariant-loop-i : goal.invariant-loop-i
invariant-loop-i l = PutsLabels l.layouts l.found l.initial.labels l.labels l.i
