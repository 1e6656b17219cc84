-- `decisions::least_path` meets its contract, with a first pair of x = 0 and without.
use native.Mathlib.Omega.{arith}
use Rattle.decisions.proofs.Selecting.{path_lone, path_even}
use Rattle.decisions.proofs.least_path.Goals as goal

pub returns-then-places-eq1 : goal.returns-then-places-eq1
returns-then-places-eq1 c =
    let s = c.requires.0 in
    λ ms d. path_lone ms d (omega (arith, s.enough)) c.if-places-eq1.true c.entry_costs-w.ensures (c.select_pairs-metric.ensures ms d) c.first_alone.ensures

pub returns : goal.returns
returns c =
    let s = c.requires.0 in
    λ ms d. path_even ms d (omega (arith, s.enough)) c.if-places-eq1.false (c.select_pairs-metric.ensures ms d)
