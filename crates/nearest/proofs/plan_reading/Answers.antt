-- `nearest::plan_reading` meets its contract: what refuses the tables, or else the inputs; or the plan.
use Prim.Native.Nat.{ℕ}
use mathlib.Core.Path.{◌≡◌, ap, ◌∙◌}
use native.Mathlib.Omega.{arith}
use lib.ListN.{length}
use Rattle.g9932.proofs.Verdicts.{number_none, passed_on}
use Rattle.g9932.specs.Nearest.{nearest_inputs, work_bytes}
use Rattle.g9932.specs.Sizes.{tables_of}
use Rattle.symbol.proofs.PlannedInputs.{tables_refused, inputs_refused, inputs_passed}
use Rattle.symbol.proofs.TablePlan.{tones_most_lem}
use Rattle.nearest.proofs.WholeNearest.{work_is}
use Rattle.nearest.specs.Planned.{work_for}
use Rattle.nearest.proofs.plan_reading.Goals as goal
use Rattle.nearest.proofs.plan_reading.Goals.{In_ok-plan}

-- the bytes of the working buffer are those of the tables' pairs
bytes : (c : In_ok-plan) → work_for c.in_ok-plan.plan.mode (length c.in_ok-plan.plan.entries.bits.now) ≡ work_bytes (tables_of c.args.mode c.args.t)
bytes c =
    let p = c.in_ok-plan.ensures in
    rw p.made.mode_is (work_is (tables_of c.args.mode c.args.t) (number_none p.answer) c.in_ok-plan.plan p.made)

same : (c : In_ok-plan) (f w : ℕ) → let p = c.in_ok-plan.plan in
    nearest_inputs c.args.start p.size (length c.args.t.tones.now) (work_for p.mode (length p.entries.bits.now)) (length c.args.points.xs.now) (length c.args.points.ys.now) f w c.args.register
    ≡ nearest_inputs c.args.start p.size (length c.args.t.tones.now) (work_bytes (tables_of c.args.mode c.args.t)) (length c.args.points.xs.now) (length c.args.points.ys.now) f w c.args.register
same c f w = ap (λ (n : ℕ). nearest_inputs c.args.start c.in_ok-plan.plan.size (length c.args.t.tones.now) n (length c.args.points.xs.now) (length c.args.points.ys.now) f w c.args.register) (bytes c)

pub returns-in_err-plan : goal.returns-in_err-plan
returns-in_err-plan c =
    rw (passed_on c.from_residual.result c.from_residual.ensures.1) (tables_refused _ _ c.in_err-plan.ensures.answer)

pub check_inputs-requires : goal.check_inputs-requires
check_inputs-requires c =
    let p = c.in_ok-plan.ensures in
    let t = tones_most_lem (tables_of c.args.mode c.args.t) (number_none p.answer) in
    omega (arith, p.made.entries_most, t)

pub returns-in_err-check_inputs : goal.returns-in_err-check_inputs
returns-in_err-check_inputs c =
    let o = (goal.at.returns-in_err-check_inputs c).In_ok-plan in
    rw (passed_on c.from_residual-in_err-check_inputs.result c.from_residual-in_err-check_inputs.ensures.1)
    (inputs_refused _ c.in_ok-plan.ensures _ (c.in_err-check_inputs.ensures ∙ same o c.args.frame_len c.args.work_len))

pub returns : goal.returns
returns c =
    let o = (goal.at.returns c).In_ok-plan in
    inputs_passed _ c.in_ok-plan.ensures (c.in_ok-check_inputs.ensures ∙ same o c.args.frame_len c.args.work_len)
