use Rattle.std.proofs.Common.{arith}
use Rattle.std.proofs.Math.ListN.{drop_of_length-le}
use Rattle.tables.proofs.Counting.{tones_next}
use Rattle.tables.proofs.Marks.{marked_step, marked_done}
use Rattle.tables.proofs.lists.mark_tones.Goals as goal

pub loop-tone-preserved : goal.loop-tone-preserved
loop-tone-preserved c = marked_step c.loop-tone.seen (tones_next c.args.tones.now c.loop-tone.tone-index c.from.ensures (omega arith)) c.loop-tone.invariant

pub returns : goal.returns
returns c = marked_done c.loop-tone.seen (drop_of_length-le c.args.tones.now {i = c.loop-tone.tone-index} (omega arith)) c.loop-tone.invariant
