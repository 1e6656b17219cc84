-- `trellis::by_number::StateNumber::step` meets its contract: the entry at a state and its three bits.
use mathlib.Core.Path.{ap, ◌∙◌}
use Prim.Native.Nat.{ℕ, ◌/◌, ◌%◌}
use Rattle.trellis.proofs.StepNumbers.{step_found}
use Rattle.trellis.proofs.by_number.StateNumber.step.Goals as goal

pub returns : goal.returns
returns c =
    let f = step_found c.args.steps.now.table c.args.self.number c.args.word c.args.steps.now.of_states c.args.self.below in
    let e = c.from-t.ensures ∙ f.0 in
    record { next_is = ap (λ (n : ℕ). n / 16) e; v_is = ap (λ (n : ℕ). n % 4) e; w_is = ap (λ (n : ℕ). n / 4 % 4) e; small = rw (← f.0) f.1 }
