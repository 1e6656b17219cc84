-- `trellis::code_first` meets its contract: the bits got are u2 and u4 upward, u1 and u3 are 0, and w alone is sent.
use mathlib.Core.Bool.{false}
use mathlib.Core.Path.{◌∙◌, ap}
use native.Mathlib.Omega.{arith}
use Rattle.g9932.specs.Bits.{odd, bits}
use Rattle.g9932.specs.Trellis.{zero_state, low_bits, next_state}
use Rattle.g9932.specs.declared.TrellisState.{TrellisState}
use Rattle.trellis.proofs.OnePair.{got_first, got_next, got_low}
use Rattle.trellis.proofs.code_first.Goals as goal

pub label-requires : goal.label-requires
label-requires c =
    got_low c.args.frame.now c.args.start c.args.y c.get-f.result c.requires.0 c.requires.2 c.get-f.ensures c.requires.1

pub returns : goal.returns
unfolding odd bits
returns c =
    let z = c.zero_state.ensures in
    let l = c.step-t.ensures.1 ∙ ap (λ (s : TrellisState). low_bits s.s0 false (odd c.get-f.result) false) z in
    let f = got_first c.args.frame.now c.args.start c.args.y c.get-f.result c.requires.0 c.requires.2 c.get-f.ensures zero_state c.step-t.result.low c.label.result l c.label.ensures in
    let n = c.step-t.ensures.0 ∙ ap (λ (s : TrellisState). next_state s false (odd c.get-f.result)) z in
    record {
      state = n ∙ got_next c.args.frame.now c.args.start c.args.y c.get-f.result c.requires.0 c.requires.2 c.get-f.ensures zero_state;
      at = omega arith;
      sends = f.sends;
      v_small = omega arith;
      w_small = f.small;
    }
