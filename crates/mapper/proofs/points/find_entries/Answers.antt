use native.Mathlib.Omega.{arith}
use Rattle.mapper.proofs.BlockLoops.{make_step}
use Rattle.mapper.proofs.points.find_entries.Goals as goal

pub entry_of-requires : goal.entry_of-requires
entry_of-requires c =
    c.requires.mappable c.loop-i.i (omega (arith, c.loop-i.invariant.same_length))

pub loop-i-preserved : goal.loop-i-preserved
loop-i-preserved c =
    make_step c.loop-i.invariant (omega (arith, c.loop-i.invariant.same_length)) c.entry_of.result c.entry_of.ensures
