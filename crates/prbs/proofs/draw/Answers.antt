-- `prbs::draw` meets its contract: SEED, or the draw.
use Rattle.g9932.specs.Answers.{draw_answer}
use Rattle.g9932.specs.Filler.{draw_of}
use mathlib.Core.Path.{sym, ◌∙◌}
use Rattle.prbs.proofs.draw.Goals as goal

pub returns-then-seed_refused : goal.returns-then-seed_refused
unfolding draw_of draw_answer
returns-then-seed_refused c = let e = sym c.seed_refused.ensures ∙ c.if-seed_refused.true in
    rw e

pub returns : goal.returns
unfolding draw_of draw_answer
returns c = let e = sym c.seed_refused.ensures ∙ c.if-seed_refused.false in
    rw (e, c.next_bit.ensures)
