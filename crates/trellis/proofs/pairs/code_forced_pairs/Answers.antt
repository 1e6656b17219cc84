use Rattle.trellis.proofs.CodeLoop.{going_end, forced_pair, pair_needs, going_step}
use native.Mathlib.Omega.{arith}
use Rattle.trellis.proofs.pairs.code_forced_pairs.Goals as goal

pub code_forced_pair-p-requires : goal.code_forced_pair-p-requires
code_forced_pair-p-requires c =
    let h = c.loop-i.invariant in
    pair_needs (forced_pair h.up_to c.entry.ensures c.entry-in-loop-i.ensures c.loop-i-test.true h.last_two)

pub loop-i-preserved : goal.loop-i-preserved
loop-i-preserved c =
    let h = c.loop-i.invariant in
    record {
      up_to = rw c.put_pair.ensures (going_step (forced_pair h.up_to c.entry.ensures c.entry-in-loop-i.ensures c.loop-i-test.true h.last_two) c.code_forced_pair-p.ensures);
      last_two = omega (arith, h.last_two);
    }

pub returns : goal.returns
returns c = rw c.from.ensures at (going_end c.loop-i.invariant.up_to (omega arith))

pub returns-2 : goal.returns-2
returns-2 c =
    let h = c.loop-i.invariant in
    rw (← c.from.ensures, c.put_pair.ensures)
    (going_end (going_step (forced_pair h.up_to c.entry.ensures c.entry-in-loop-i.ensures c.loop-i-test.true h.last_two) c.code_forced_pair-p.ensures) (omega arith))
