use native.Mathlib.Omega.{arith}
use Rattle.plan.proofs.Steps.{share_more}
use Rattle.plan.proofs.filing.share_entries.Goals as goal

pub loop-j-preserved : goal.loop-j-preserved
loop-j-preserved c =
    share_more c.loop-j.invariant (omega (arith, c.requires.most)) (omega (arith, c.requires.most, c.requires.at_most)) (omega (arith, c.requires.most, c.requires.at_most))
