-- `plan::plan_tables` meets its contract: refusals 1 to 8, or the plan.
use mathlib.Core.Path.{◌≡◌, ap, sym, ◌∙◌}
use native.Mathlib.Omega.{arith}
use Rattle.g9932.proofs.Accepted.{Accepted, accepted_tables}
use Rattle.g9932.specs.Refusals.{Verdict, accepted}
use Rattle.g9932.specs.Sizes.{tables_of}
use Rattle.g9932.specs.Symbol.{size_of}
use Rattle.g9932.proofs.Verdicts.{number_none, passed_on}
use Rattle.plan.proofs.plan_tables.Goals as goal
use Rattle.plan.proofs.plan_tables.Goals.{In_ok-frame}

known : (c : In_ok-frame) → Accepted (tables_of c.args.mode c.args.t)
known c = accepted_tables (tables_of c.args.mode c.args.t) (number_none c.in_ok-frame.ensures.answer)

size_is : (c : In_ok-frame) → c.in_ok-frame.frame.size ≡ size_of (tables_of c.args.mode c.args.t)
size_is c = ap (λ (v : Verdict). v.size) (c.in_ok-frame.ensures.answer ∙ (known c).verdict)

pub file_plan-requires : goal.file_plan-requires
file_plan-requires c =
    let o = (goal.at.file_plan-requires c).In_ok-frame in
    let k = known o in
    let s = c.in_ok-frame.ensures.shares in
    record { size_is = size_is o; below = k.tones_below; bits_most = k.bits_most; gains = k.gains_length; most = omega (arith, k.tones_most, k.table_most); sharers_are = s.1; even = s.2 }

pub returns-in_err-frame : goal.returns-in_err-frame
returns-in_err-frame c =
    rw (passed_on c.from_residual.result c.from_residual.ensures.1) (record { answer = c.in_err-frame.ensures.answer; made = tt })

pub returns : goal.returns
returns c =
    let o = (goal.at.returns c).In_ok-frame in
    record { answer = ap accepted (c.file_plan.ensures.size_is ∙ sym (size_is o)) ∙ c.in_ok-frame.ensures.answer; made = c.file_plan.ensures }
