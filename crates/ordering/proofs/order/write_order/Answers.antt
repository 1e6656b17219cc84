-- `ordering::order::write_order` meets its contract, by the mode.
use mathlib.Core.Path.{◌≡◌, sym}
use Prim.Native.Nat.{◌-◌, ◌/◌}
use native.Mathlib.Omega.{arith}
use Rattle.g9932.specs.Order.{loaded, ones}
use Rattle.g9932.proofs.Reordering.{entries_fit_lem}
use Rattle.ordering.proofs.order.write_order.Goals as goal

pub overflow_sub-zeros : goal.overflow_sub-zeros
overflow_sub-zeros c =
    let b = c.args.bits.now in
    let t = c.args.tones.now in
    let e = c.in-Coded.is in
    let n : c.args.frame.entries ≡ loaded b t - ones b t / 2 = rw e at c.requires.entries_are in
    let o : c.args.frame.sharers ≡ ones b t = rw e at c.requires.sharers_are in
    omega (arith, n, (entries_fit_lem b t (rw (sym o) c.requires.even)).within)
