-- `plain_mapper::small::two_bits` meets its contract.
use native.Mathlib.Omega.{arith}
use mathlib.Core.Path.{◌≡◌}
use Rattle.g9932.specs.Bits.{bits, odd, num, weight}
use Rattle.g9932.specs.Points.{twos_complement}
use Rattle.plain_mapper.proofs.small.two_bits.Goals as goal

pub returns-in-0 : goal.returns-in-0
unfolding bits odd twos_complement num weight
returns-in-0 c = rw c.in-0.is

pub returns-in-1 : goal.returns-in-1
unfolding bits odd twos_complement num weight
returns-in-1 c = rw c.in-1.is

pub returns-in-2 : goal.returns-in-2
unfolding bits odd twos_complement num weight
returns-in-2 c = rw c.in-2.is

pub returns-in_default : goal.returns-in_default
unfolding bits odd twos_complement num weight
returns-in_default c = let e : c.args.label ≡ 3 = omega arith in rw e
