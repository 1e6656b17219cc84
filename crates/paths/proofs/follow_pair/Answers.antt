-- `paths::follow_pair` meets its contract: the step by the three lowest bits of the survivor at the state's number.
use mathlib.Core.Path.{◌≡◌, refl, sym, ap, ◌∙◌}
use Prim.Native.Nat.{ℕ, ◌+◌, ◌*◌, ◌/◌, ◌%◌, ◌<◌}
use native.Mathlib.Omega.{arith}
use lib.ListN.{get_or}
use Rattle.g9932.proofs.Words.{weight_odd}
use Rattle.g9932.specs.Bits.{weight}
use Rattle.g9932.specs.Trellis.{next_state}
use Rattle.g9932.specs.declared.TrellisState.{TrellisState}
use Rattle.trellis.proofs.StepNumbers.{state_back, step_v, step_w, step_next}
use Rattle.trellis.specs.Steps.{state_at}
use Rattle.paths.specs.Paths.{Inputs, after, low_by}
use Rattle.paths.specs.Survivors.{index_of, inputs_of, survivor}
use Rattle.paths.proofs.follow_pair.Goals as goal

-- the number of a number's state
number_back : (n : ℕ) → n < 16 → index_of (state_at n) ≡ n
unfolding state_at
number_back n h =
    let quarter : n / 4 ≡ n / 2 / 2 = omega arith in
    let eighth : n / 8 ≡ n / 4 / 2 = omega arith in
    let top : n / 8 % 2 ≡ n / 8 = omega arith in
    omega (arith, weight_odd n, weight_odd (n / 2), weight_odd (n / 4), weight_odd (n / 8))

pub returns : goal.returns
returns c =
    let s : TrellisState = state_at c.args.state.number in
    let k : ℕ = c.from.result in
    let u : Inputs = inputs_of k in
    let e : u ≡ survivor c.args.survivors.now c.args.j s =
    ap inputs_of c.from.ensures ∙ ap (λ (n : ℕ). inputs_of (get_or c.args.survivors.now (16 * c.args.j + n) 0)) (sym (number_back c.args.state.number c.args.state.below)) in
    let r = c.step.ensures in
    record {
      next_is = ap state_at (r.next_is ∙ step_next s u.u1 u.u2 u.u3 _ refl) ∙ state_back (next_state s u.u1 u.u2) ∙ ap (after s) e;
      v_is = r.v_is ∙ step_v s u.u1 u.u2 u.u3 _ refl ∙ ap (λ (z : Inputs). weight (low_by s z).v0 + 2 * weight (low_by s z).v1) e;
      w_is = r.w_is ∙ step_w s u.u1 u.u2 u.u3 _ refl ∙ ap (λ (z : Inputs). weight (low_by s z).w0 + 2 * weight (low_by s z).w1) e;
    }
