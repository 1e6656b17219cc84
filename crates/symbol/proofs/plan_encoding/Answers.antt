-- `symbol::plan_encoding` meets its contract: what refuses the tables, or else the inputs; or the plan.
use Rattle.g9932.proofs.Verdicts.{passed_on}
use Rattle.symbol.proofs.PlannedInputs.{tables_refused, inputs_refused, inputs_passed}
use Rattle.symbol.proofs.plan_encoding.Goals as goal

pub returns-in_err-plan : goal.returns-in_err-plan
returns-in_err-plan c =
    rw (passed_on c.from_residual.result c.from_residual.ensures.1) (tables_refused _ _ c.in_err-plan.ensures.answer)

pub returns-in_err-check_inputs : goal.returns-in_err-check_inputs
returns-in_err-check_inputs c =
    rw (passed_on c.from_residual-in_err-check_inputs.result c.from_residual-in_err-check_inputs.ensures.1) (inputs_refused _ c.in_ok-plan.ensures _ c.in_err-check_inputs.ensures)

pub returns : goal.returns
returns c = inputs_passed _ c.in_ok-plan.ensures c.in_ok-check_inputs.ensures
