-- `symbol::reading::check_inputs` meets its contract: ROOM of the lists and of the frame, then FRAME of the start, then SEED.
use mathlib.Core.Path.{refl, sym, ◌∙◌}
use Rattle.g9932.proofs.Verdicts.{test_here, test_past}
use Rattle.g9932.specs.Answers.{read_inputs}
use Rattle.symbol.proofs.reading.check_inputs.Goals as goal

pub returns-then-x_len-nsc : goal.returns-then-x_len-nsc
unfolding read_inputs
returns-then-x_len-nsc c = test_here 10 _ (rw c.bytes_for.ensures at c.if-x_len-nsc.true)

pub returns-then-start_refused : goal.returns-then-start_refused
unfolding read_inputs
returns-then-start_refused c =
    test_past 10 (rw c.bytes_for.ensures at c.if-x_len-nsc.false) (test_here 11 _ (sym c.start_refused.ensures ∙ c.if-start_refused.true))

pub returns-then-seed_refused : goal.returns-then-seed_refused
unfolding read_inputs
returns-then-seed_refused c =
    test_past 10 (rw c.bytes_for.ensures at c.if-x_len-nsc.false) (test_past 11 (sym c.start_refused.ensures ∙ c.if-start_refused.false) (test_here 12 _ (sym c.seed_refused.ensures ∙ c.if-seed_refused.true)))

pub returns : goal.returns
unfolding read_inputs
returns c =
    test_past 10 (rw c.bytes_for.ensures at c.if-x_len-nsc.false) (test_past 11 (sym c.start_refused.ensures ∙ c.if-start_refused.false) (test_past 12 (sym c.seed_refused.ensures ∙ c.if-seed_refused.false) refl))
