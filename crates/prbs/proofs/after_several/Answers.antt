-- `prbs::after_several` meets its contract: the bits that are fed back stand above those that are left.
use native.Mathlib.Omega.{arith}
use Rattle.prbs.proofs.Draws.{several_shifted, draws_fit}
use Rattle.prbs.proofs.after_several.Goals as goal

pub overflow_add-result : goal.overflow_add-result
overflow_add-result c = let a = c.args in
    rw (several_shifted a.draws a.register c.requires) (omega (arith, draws_fit a.draws a.register c.ranges.register.fits))

pub returns : goal.returns
returns c = several_shifted c.args.draws c.args.register c.requires
