-- `passes::write::write_symbol` meets its contract: the labels of the frame, then their points.
use Rattle.g9932.specs.Symbol.{classes_of, sent_in}
use Rattle.passes.proofs.SymbolPasses.{points_of}
use Rattle.passes.proofs.write.write_symbol.Goals as goal

pub write_points-requires : goal.write_points-requires
write_points-requires c =
    (_, _, _, _, points_of c.requires.planned c.label_frame.auto.labels (rw c.from.ensures at c.label_frame.ensures))

pub returns : goal.returns
returns c =
    λ T w. c.write_points.ensures (classes_of T) (sent_in T c.args.start c.args.frame.now) _ _ (points_of w c.label_frame.auto.labels (rw c.from.ensures at c.label_frame.ensures))
