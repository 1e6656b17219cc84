use Prim.Native.Nat.{◌+◌, ◌*◌, ◌%◌}
use native.Mathlib.Omega.{arith}
use mathlib.Core.Path.{ap, ◌∙◌}
use Rattle.g9932.specs.Filler.{after_draws}
use Rattle.prbs.proofs.Draws.{draws_on}
use Rattle.prbs.proofs.after_tones.Goals as goal

pub loop-preserved : goal.loop-preserved
loop-preserved c = let l = c.loop in
    c.after_several-next.ensures ∙ ap (after_draws 18) l.invariant ∙ draws_on (18 * l.counter) 18 (18 * (l.counter + 1)) c.args.register (omega arith)

pub returns : goal.returns
returns c = let l = c.loop in
    let rest = 2 * (c.args.tones % 9) in
    c.after_several.ensures ∙ ap (after_draws rest) l.invariant ∙ draws_on (18 * l.counter) rest (2 * c.args.tones) c.args.register (omega arith)
