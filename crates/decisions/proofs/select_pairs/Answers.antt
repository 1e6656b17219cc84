use native.Mathlib.Omega.{arith}
use Rattle.decisions.proofs.Selecting.{selected_none, selected_more}
use Rattle.decisions.proofs.select_pairs.Goals as goal

pub loop-j-init : goal.loop-j-init
loop-j-init c =
    let s = c.requires.0 in
    (omega (arith, s.enough), omega arith, λ ms d. selected_none ms d _ (omega arith) _)

pub loop-j-preserved : goal.loop-j-preserved
loop-j-preserved c =
    let turn = c.loop-j-test.true in (
      omega (arith, turn),
      omega (arith, c.loop-j.invariant.1),
      λ ms d. selected_more ms d _ (omega arith) c.loop-j.j c.entry_costs-v.result c.entry_costs-w.result turn c.loop-j.invariant.1 (c.loop-j.invariant.2 ms d)
          c.entry_costs-v.ensures c.entry_costs-w.ensures c.edges_of-edges.ensures.0 c.edges_of-edges.ensures.1 c.advance-metric.ensures,
    )
