-- `trellis::pairs::code_free_pair` meets its contract: the step and the masked word make the pair's labels.
use mathlib.Core.Path.{refl, ap₂}
use Prim.Native.Nat.{ℕ, ◌+◌, ◌*◌, ◌/◌}
use Rattle.g9932.specs.Bits.{odd}
use Rattle.trellis.proofs.FreePair.{free_coded}
use Rattle.trellis.specs.Steps.{state_at, step_number}
use Rattle.trellis.proofs.pairs.code_free_pair.Goals as goal

pub returns : goal.returns
returns c =
    let n = c.requires in
    let word = c.ahead-word.result in
    let t = c.step-t.ensures in
    let number : ℕ = step_number (state_at c.args.state.number) (odd word) (odd (word / 2)) (odd (word / 4)) in
    let codes =
    free_coded c.args.frame.now c.args.state.number c.args.at c.args.x c.args.y word number n.x_range.0 n.x_range.1 n.y_range.0 n.y_range.1 n.bits c.ahead-word.ensures refl _ _
    (ap₂ (λ (v k : ℕ). v + 4 * k) t.v_is c.lowest.ensures.0) (ap₂ (λ (w k : ℕ). w + 4 * k) t.w_is c.lowest-2.ensures.0) in
    record { codes = rw t.next_is codes }
