use native.Mathlib.Omega.{arith}
use mathlib.Core.Path.{ap, ◌∙◌}
use mir.ValLaws.{to_z-of_z}
use mir.Syntax.{w16}
use lib.IntN.{pos}
use lib.ListN.{get_or}
use Rattle.constellation.specs.Stored.{stored_or}
use Rattle.g9932.specs.Sizes.{entry}
use Rattle.mapper.proofs.PointLoop.{put_step}
use Rattle.mapper.proofs.points.put_stored.Goals as goal

pub loop-i-preserved : goal.loop-i-preserved
loop-i-preserved c =
    let g = c.struct_told-1.given in
    let x = to_z-of_z w16 (get_or c.loop-i.xs c.loop-i.i (pos 0)) (record { sfits = c.p-1.given }) in
    let y = to_z-of_z w16 (get_or c.loop-i.ys c.loop-i.i (pos 0)) (record { sfits = c.p-in-loop-i-1.given }) in
    rw (to_z-of_z w16 c.stored_or-q.result.x (record { sfits = g.0.1 }), to_z-of_z w16 c.stored_or-q.result.y (record { sfits = g.1.0.1 }))
    (put_step c.loop-i.invariant (omega (arith, c.loop-i.invariant.xs_length)) c.stored_or-q.result.x c.stored_or-q.result.y
    (rw (x, y) at c.stored_or-q.ensures ∙ ap (stored_or (entry c.args.layouts.now c.loop-i.i) (entry c.args.entries.now c.loop-i.i)) (c.loop-i.invariant.left c.loop-i.i (omega arith))))
