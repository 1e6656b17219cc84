use Rattle.g9932.specs.Sizes.{Point, entry, point_at}
use native.Mathlib.Omega.{arith}
use Prim.Native.Nat.{◌<◌}
use mathlib.Core.Path.{◌≡◌, ap, ◌∙◌}
use lib.ListN.{length}
use Rattle.g9932.specs.Drive.{signal_of, x_of, y_of}
use Rattle.drive.proofs.NumberLoop.{put_step}
use Rattle.drive.specs.Numbers.{whole_by}
use Rattle.drive.proofs.numbers.put_numbers.Goals as goal

pub loop-i-preserved : goal.loop-i-preserved
loop-i-preserved c =
    let h : c.loop-i.i < length c.args.xs.now = omega (arith, c.loop-i.invariant.xs_length) in
    let p = point_at c.args.points.xs.now c.args.points.ys.now c.loop-i.i in
    let e : c.signal_of.result ≡ signal_of (whole_by (entry c.args.gains.now c.loop-i.i) p) =
    c.signal_of.ensures ∙ ap (λ (q : Point). signal_of (whole_by (entry c.args.gains.now c.loop-i.i) q)) c.at.ensures in
    put_step c.loop-i.invariant h _ _ (c.numbers_of-n.ensures.0 ∙ ap x_of e, c.numbers_of-n.ensures.1 ∙ ap y_of e)
