-- `wrong_bits::sum_lanes` meets its contract. The invariant: `total` is the sum of the lanes so far.
use Rattle.std.proofs.Common.{◌≡◌, take}
use Rattle.g9932.specs.Order.{sum}
use Rattle.tally.proofs.wrong_bits.sum_lanes.Given as goal

abbrev pub invariant-loop-lane : goal.invariant-loop-lane
invariant-loop-lane l = l.total ≡ sum (take l.lane-index l.lanes)
