use Rattle.std.proofs.Common.{◌≡◌, ◌<◌, ◌≤◌, ℕ, ◌+◌, List, take, get_or, length, add-one, arith}
use Rattle.std.proofs.lemmas.List.{get_or-take, length-take-le}
use Rattle.g9932.specs.Order.{sum}
use Rattle.tally.proofs.Rows.{sum_suc, sum_used, sum_fits_lem}
use Rattle.tally.proofs.wrong_bits.sum_lanes.Goals as goal

sum_more : (l : List ℕ) (n j : ℕ) → n ≤ length l → j < length (take n l) → sum (take (j + 1) l) ≡ sum (take j l) + get_or (take n l) j 0
sum_more l n j h i =
    let j_lt : j < n = omega (arith, length-take-le n l) in
    rw (get_or-take n l j 0, add-one) (sum_suc l j (omega arith))

pub overflow_add-total : goal.overflow_add-total
overflow_add-total c =
    omega (arith, length-take-le c.args.used c.args.lanes.now, c.loop-lane.invariant, sum_more c.args.lanes.now c.args.used c.loop-lane.lane-index (omega arith) (omega arith), sum_fits_lem c.args.lanes.now (c.loop-lane.lane-index + 1))

pub loop-lane-preserved : goal.loop-lane-preserved
loop-lane-preserved c =
    let e = sum_more c.args.lanes.now c.args.used c.loop-lane.lane-index (omega arith) (omega arith) in
    cc

pub returns : goal.returns
returns c =
    let e : c.loop-lane.lane-index ≡ c.args.used = omega (arith, length-take-le c.args.used c.args.lanes.now) in
    let s = sum_used c.args.lanes.now c.args.used c.requires.unused in
    cc
