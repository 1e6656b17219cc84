use Rattle.trellis.proofs.StepNumbers.{coder_back}
use Rattle.trellis.proofs.CodeLoop.{going_start, going_on, going_to, free_pair, pair_needs, going_step}
use native.Mathlib.Omega.{arith}
use Rattle.trellis.proofs.pairs.code_from.Goals as goal

pub loop-n-init : goal.loop-n-init
loop-n-init c =
    rw (coder_back c.args.c c.from-state.result.number c.from-state.ensures) (going_to (going_start c.requires.1) (omega arith))

pub code_free_pair-p-requires : goal.code_free_pair-p-requires
code_free_pair-p-requires c =
    pair_needs (free_pair c.loop-n.invariant c.entry-x.ensures c.entry-y.ensures (omega arith))

pub loop-n-preserved : goal.loop-n-preserved
loop-n-preserved c =
    rw c.put_pair.ensures
    (going_to (going_step (free_pair c.loop-n.invariant c.entry-x.ensures c.entry-y.ensures (omega arith)) c.code_free_pair-p.ensures.codes) (omega arith))

pub code_forced_pairs-requires : goal.code_forced_pairs-requires
code_forced_pairs-requires c =
    let p = c.requires.0 in
    let g = going_to c.loop-n.invariant (omega arith) in
    (omega arith, record { places_length = p.places_length; rising = rw c.loop-n.auto.labels p.rising }, g.needs)

pub returns : goal.returns
returns c =
    rw (coder_back c.args.c c.from-state.result.number c.from-state.ensures) at (going_on (going_to c.loop-n.invariant (omega arith)) c.code_forced_pairs.ensures)
