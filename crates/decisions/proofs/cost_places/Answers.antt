use mathlib.Core.Path.{sym}
use Rattle.g9932.proofs.PointLists.{point_at_lem}
use Rattle.decisions.proofs.Places.{costs_of_lem, costed_more, kept_more}
use Rattle.decisions.proofs.cost_places.Goals as goal

pub costs_by-requires : goal.costs_by-requires
costs_by-requires c = c.requires.of_tones c.loop-i.i c.loop-i-test.true

pub loop-i-preserved : goal.loop-i-preserved
loop-i-preserved c =
    let i = c.loop-i.i in
    let p = rw (sym (point_at_lem c.args.points.xs.now c.args.points.ys.now i c.loop-i-test.true c.requires.ys_length)) at (rw c.at.ensures at c.raise_point-p.ensures) in
    record {
      costs = costed_more c.loop-i.invariant.costs c.put.ensures (costs_of_lem p c.costs_by.ensures);
      behind = kept_more c.args.costs.now c.loop-i.invariant.behind c.put.ensures;
    }
