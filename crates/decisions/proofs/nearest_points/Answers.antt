use Rattle.decisions.proofs.Places.{point_of_lem, points_more}
use Rattle.g9932.proofs.PointLists.{point_at_lem}
use mathlib.Core.Path.{sym}
use mir.Syntax.{w16}
use mir.ValLaws.{to_z-of_z}
use native.Mathlib.Omega.{arith}
use Rattle.decisions.proofs.nearest_points.Goals as goal

pub point_by-q-requires : goal.point_by-q-requires
point_by-q-requires c =
    (c.requires.places.of_tones c.loop-i.i c.loop-i-test.true, omega arith)

pub loop-i-preserved : goal.loop-i-preserved
loop-i-preserved c =
    let i = c.loop-i.i in
    let p = rw (sym (point_at_lem c.args.points.xs.now c.args.points.ys.now i c.loop-i-test.true c.requires.places.ys_length)) at (rw c.at.ensures at c.raise_point-p.ensures) in
    let g = c.struct_told-in-loop-i-1.given in
    rw (to_z-of_z w16 c.point_by-q.result.x (record { sfits = g.0.1 }), to_z-of_z w16 c.point_by-q.result.y (record { sfits = g.1.0.1 }))
    (points_more c.loop-i.invariant c.point_by-q.result.x c.point_by-q.result.y (omega (arith, c.requires.lows_length, c.loop-i-test.true)) (point_of_lem p c.point_by-q.ensures))
