-- `symbol::encoding::check_inputs` meets its contract: ROOM of both lists, FRAME, SEED, in this order.
use mathlib.Core.Path.{refl, sym, ◌∙◌}
use Rattle.g9932.proofs.Verdicts.{test_here, test_past}
use Rattle.g9932.specs.Answers.{encode_inputs}
use Rattle.symbol.proofs.encoding.check_inputs.Goals as goal

pub returns-then-x_len-nsc : goal.returns-then-x_len-nsc
unfolding encode_inputs
returns-then-x_len-nsc c = test_here 10 _ c.if-x_len-nsc.true

pub returns-then-frame_refused : goal.returns-then-frame_refused
unfolding encode_inputs
returns-then-frame_refused c =
    test_past 10 c.if-x_len-nsc.false (test_here 11 _ (sym c.frame_refused.ensures ∙ c.if-frame_refused.true))

pub returns-then-seed_refused : goal.returns-then-seed_refused
unfolding encode_inputs
returns-then-seed_refused c =
    test_past 10 c.if-x_len-nsc.false (test_past 11 (sym c.frame_refused.ensures ∙ c.if-frame_refused.false) (test_here 12 _ (sym c.seed_refused.ensures ∙ c.if-seed_refused.true)))

pub returns : goal.returns
unfolding encode_inputs
returns c =
    test_past 10 c.if-x_len-nsc.false (test_past 11 (sym c.frame_refused.ensures ∙ c.if-frame_refused.false) (test_past 12 (sym c.seed_refused.ensures ∙ c.if-seed_refused.false) refl))
