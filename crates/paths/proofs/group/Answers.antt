-- `paths::group` meets its contract: the least sum of each of the four states.
use Rattle.paths.specs.Survivors.{grouped}
use Rattle.paths.proofs.group.Goals as goal

pub returns : goal.returns
unfolding grouped
returns c = λ i. record { a = c.least_sum.ensures i; b = c.least_sum-2.ensures i; c = c.least_sum-3.ensures i; d = c.least_sum-4.ensures i }
