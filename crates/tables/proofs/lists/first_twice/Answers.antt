-- `tables::lists::first_twice` meets its contract: marks as many as tones, or else the search.
use mathlib.Core.Path.{sym, ◌∙◌}
use Rattle.tables.proofs.Marks.{marks_all, none_twice}
use Rattle.tables.proofs.lists.first_twice.Goals as goal

pub returns-then-count_marks-tones : goal.returns-then-count_marks-tones
returns-then-count_marks-tones c =
    let m = c.mark_tones.ensures in (
      none_twice c.args.tones.now c.args.seen.now c.requires.clear c.requires.below m (sym c.count_marks.ensures ∙ c.if-count_marks-tones.true),
      marks_all c.args.tones.now c.args.seen.now c.requires.clear c.requires.below m,
    )

pub returns : goal.returns
returns c =
    (c.first_repeat.ensures, marks_all c.args.tones.now c.args.seen.now c.requires.clear c.requires.below c.mark_tones.ensures)
