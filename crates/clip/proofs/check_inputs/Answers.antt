-- `clip::check_inputs` meets its contract: the refusals in their order.
use Rattle.std.proofs.Common.{refl, sym, ◌∙◌}
use Rattle.g9932.proofs.Verdicts.{test_here, test_past, and_refused, and_accepted, passed_on}
use Rattle.g9932.specs.Clip.{clip_inputs, clip_verdict}
use Rattle.clip.proofs.check_inputs.Goals as goal

pub returns-in_err-size_tables : goal.returns-in_err-size_tables
unfolding clip_verdict
returns-in_err-size_tables c =
    rw (passed_on c.from_residual.result c.from_residual.ensures.1) (and_refused c.in_err-size_tables.field-0.0 _ c.in_err-size_tables.ensures.answer)

pub returns-then-points-t : goal.returns-then-points-t
unfolding clip_verdict clip_inputs
returns-then-points-t c = and_accepted _ c.in_ok-size_tables.ensures.answer (test_here 10 _ c.if-points-t.true)

pub returns-then-seed_refused : goal.returns-then-seed_refused
unfolding clip_verdict clip_inputs
returns-then-seed_refused c =
    and_accepted _ c.in_ok-size_tables.ensures.answer (test_past 10 c.if-points-t.false (test_here 12 _ (sym c.seed_refused.ensures ∙ c.if-seed_refused.true)))

pub returns : goal.returns
unfolding clip_verdict clip_inputs
returns c =
    and_accepted _ c.in_ok-size_tables.ensures.answer (test_past 10 c.if-points-t.false (test_past 12 (sym c.seed_refused.ensures ∙ c.if-seed_refused.false) refl))
