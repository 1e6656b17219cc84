-- `decisions::trace_first` meets its contract, with a first pair of x = 0 and without.
use Prim.Native.Nat.{ℕ, ◌%◌}
use mathlib.Core.Path.{◌≡◌, sym, subst}
use lib.ListN.{length}
use native.Mathlib.Omega.{arith}
use Rattle.decisions.specs.Deciding.{StateBefore, LowTraced}
use Rattle.decisions.proofs.Tracing.{traced_first, traced_none, zero_before, next_before, w_low, lows_small}
use Rattle.decisions.proofs.trace_first.Goals as goal

pub returns-then-places-eq0 : goal.returns-then-places-eq0
returns-then-places-eq0 c =
    let e : 0 ≡ length c.args.places.now % 2 = sym c.if-places-eq0.true in
    (subst (λ (j : ℕ). StateBefore c.args.survivors.now j c.zero.result.number) e (zero_before c.zero.ensures), subst (LowTraced c.args.places.now c.args.survivors.now c.args.labels.now) e traced_none)

pub overflow_cast-t : goal.overflow_cast-t
overflow_cast-t c =
    let l = lows_small c.follow_pair-t.ensures in
    omega (arith, l.0, l.1)

pub returns : goal.returns
returns c =
    let p = c.requires in
    let odd : length c.args.places.now % 2 ≡ 1 = omega (arith, c.if-places-eq0.false) in
    let z = zero_before {σ = c.args.survivors.now} c.zero-2.ensures in (
      subst (λ (j : ℕ). StateBefore c.args.survivors.now j c.follow_pair-t.result.next.number) (sym odd) (next_before z c.follow_pair-t.ensures),
      traced_first c.args.labels.now p.rising (omega (arith, p.enough)) odd c.put_label.ensures c.place_at.ensures (w_low z c.follow_pair-t.ensures),
    )
