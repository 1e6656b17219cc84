use Prim.Native.Nat.{◌+◌}
use lib.ListN.{length}
use mathlib.Core.Path.{◌≡◌, sym, subst}
use native.Mathlib.Omega.{arith}
use Rattle.frame.specs.Labels.{Rising}
use Rattle.decisions.proofs.Tracing.{lows_small, tracing_more}
use Rattle.decisions.proofs.trace_low.Goals as goal

pub overflow_cast-t : goal.overflow_cast-t
overflow_cast-t c =
    let l = lows_small c.follow_pair-t.ensures in
    omega (arith, l.0, l.1)

pub overflow_cast-t-in-loop-k : goal.overflow_cast-t-in-loop-k
overflow_cast-t-in-loop-k c =
    let l = lows_small c.follow_pair-t.ensures in
    omega (arith, l.0, l.1)

pub loop-k-preserved : goal.loop-k-preserved
loop-k-preserved c =
    let r = subst (Rising c.args.places.now) (sym c.trace_first-state.auto.labels) c.requires.rising in
    tracing_more r c.loop-k.invariant c.loop-k-test.true c.follow_pair-t.ensures
    c.put_label.ensures c.place_at.ensures c.put_label-in-loop-k.ensures c.place_at-in-loop-k.ensures

pub returns-2 : goal.returns-2
returns-2 c =
    let r = subst (Rising c.args.places.now) (sym c.trace_first-state.auto.labels) c.requires.rising in
    let t = tracing_more r c.loop-k.invariant c.loop-k-test.true c.follow_pair-t.ensures c.put_label.ensures c.place_at.ensures c.put_label-in-loop-k.ensures c.place_at-in-loop-k.ensures in
    let e : c.loop-k.k + 2 ≡ length c.args.places.now = omega (arith, t.inside) in
    rw e at t.traced
