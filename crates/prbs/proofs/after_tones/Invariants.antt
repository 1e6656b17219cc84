-- `prbs::after_tones` meets its contract. The invariant: so often nine tones have drawn.
use Prim.Native.Nat.{◌*◌}
use mathlib.Core.Path.{◌≡◌}
use Rattle.g9932.specs.Filler.{after_draws}
use Rattle.prbs.proofs.after_tones.Given as goal

abbrev pub invariant-loop : goal.invariant-loop
invariant-loop l = l.next ≡ after_draws (18 * l.counter) l.register
