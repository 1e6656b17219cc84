-- `tables::sizes::size_tables` meets its contract: refusals 1 to 6, and then those of the mode.
use Rattle.g9932.proofs.Verdicts.{and_accepted, passed_on}
use Rattle.g9932.specs.Refusals.{table_verdict}
use Rattle.tables.proofs.Answers.{lists_pass, lists_refused}
use Rattle.tables.proofs.sizes.size_tables.Goals as goal

pub size_frame-requires : goal.size_frame-requires
size_frame-requires c = lists_pass _ _ _ c.in_ok-check_lists.ensures

pub returns-in_err-check_lists : goal.returns-in_err-check_lists
returns-in_err-check_lists c =
    rw (passed_on c.from_residual.result c.from_residual.ensures.1)
    (record { answer = lists_refused _ _ _ _ c.in_err-check_lists.field-0.0 c.in_err-check_lists.ensures; shares = tt })

pub returns : goal.returns
unfolding table_verdict
returns c = record { answer = and_accepted _ c.in_ok-check_lists.ensures c.size_frame.ensures.answer; shares = c.size_frame.ensures.shares }
