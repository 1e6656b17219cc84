-- `trellis::pairs::code_forced_pair` meets its contract: the bits got are u3 upward, and the pair's labels are v and w.
use Rattle.trellis.proofs.OnePair.{got_high, got_pair}
use Rattle.trellis.proofs.Numbers.{Inputs, inputs_of, one_shifted}
use Rattle.g9932.specs.Bits.{odd}
use mathlib.Core.Path.{refl, ◌∙◌}
use mathlib.Core.Bool.{true}
use Prim.Native.Nat.{◌-◌, ◌/◌, ◌^◌, ◌<◌}
use native.Mathlib.Nat.{lt_of_le_of_lt, div-le_self}
use native.Mathlib.Omega.{arith}
use Rattle.trellis.proofs.pairs.code_forced_pair.Goals as goal
use Rattle.trellis.proofs.pairs.code_forced_pair.Goals.{After-get-f}

-- what stands above u3 fits
high : (c : After-get-f) → c.get-f.result / 2 < 536870912
unfolding inputs_of
high c =
    let i : Inputs = inputs_of true c.args.c.state c.get-f.result in
    let h =
    got_high true c.args.c.state c.args.x c.args.y c.args.frame.now c.args.c.at _ c.get-f.result i c.requires.x_range.0 c.requires.y_range.0 c.requires.bits refl c.get-f.ensures refl c.requires.x_range.1 c.requires.y_range.1 in
    omega (arith, h)

pub label-requires-2 : goal.label-requires-2
label-requires-2 c =
    lt_of_le_of_lt (div-le_self (c.get-f.result / 2) (2 ^ (c.args.x - 2))) (high (goal.at.label-requires-2 c).After-get-f)

pub returns : goal.returns
unfolding inputs_of odd
returns c =
    let i : Inputs = inputs_of true c.args.c.state c.get-f.result in
    let p =
    got_pair true c.args.c.state c.args.x c.args.y c.args.frame.now c.args.c.at _ c.get-f.result i c.requires.x_range.0 c.requires.y_range.0 c.requires.bits refl c.get-f.ensures refl
    c.forced_step-t.result.low c.label.result c.label-2.result c.forced_step-t.ensures.1 (rw (one_shifted (c.args.x - 2) (omega (arith, c.requires.x_range))) at c.label.ensures) c.label-2.ensures in
    record { state = c.forced_step-t.ensures.0 ∙ p.next; at = refl; sends = p.sends; v_small = p.v_small; w_small = p.w_small }
