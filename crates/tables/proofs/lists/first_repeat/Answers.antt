use Rattle.std.proofs.Common.{◌≡◌, ◌∙◌, sym, ◌<◌, false, get_or, length-set, arith}
use Rattle.g9932.specs.Sizes.{most_tones}
use Rattle.g9932.specs.Refusals.{twice_test}
use Rattle.g9932.proofs.Search.{first_none, first_more, first_at}
use Rattle.tables.proofs.Marks.{marks_none, marks_more}
use Rattle.tables.proofs.lists.first_repeat.Goals as goal
use Rattle.tables.proofs.lists.first_repeat.Goals.{In-loop-i}

-- the entry at place i has a mark's index,
below : (c : In-loop-i) → get_or c.args.tones.now c.loop-i.i 0 < most_tones
below c = c.requires.below c.loop-i.i (omega arith)

-- and its mark tells whether 3 applies to it
marked : (c : In-loop-i) → twice_test c.args.tones.now c.loop-i.i ≡ get_or c.loop-i.seen (get_or c.args.tones.now c.loop-i.i 0) false
marked c = sym (c.loop-i.invariant.marks (get_or c.args.tones.now c.loop-i.i 0) (below c))

pub loop-i-init : goal.loop-i-init
loop-i-init c = record { long = c.told-seen; none = first_none _; marks = marks_none c.args.tones.now c.requires.clear }

pub returns-then-seen-k : goal.returns-then-seen-k
returns-then-seen-k c =
    first_at _ _ _ c.loop-i.invariant.none (marked (goal.at.returns-then-seen-k c).In-loop-i ∙ rw (← c.from.ensures) c.if-seen-k.true) (omega arith)

pub loop-i-preserved : goal.loop-i-preserved
loop-i-preserved c =
    record {
      long = simp length-set c.loop-i.invariant.long;
      none = first_more _ _ c.loop-i.invariant.none (marked (goal.at.loop-i-preserved c).In-loop-i ∙ rw (← c.from.ensures) c.if-seen-k.false);
      marks = marks_more c.args.tones.now c.loop-i.i c.loop-i.seen c.loop-i.invariant.marks c.from.ensures c.loop-i.invariant.long (omega arith) (omega (arith, c.from.ensures, below (goal.at.loop-i-preserved c).In-loop-i));
    }
