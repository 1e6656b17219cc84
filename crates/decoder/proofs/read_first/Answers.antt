-- `decoder::read_first` meets its contract: the pair has no v, so u0 is w0 xor w1, and w0 is u2.
use mathlib.Core.Path.{sym, ap, ◌∙◌}
use mathlib.Core.Bool.{false, not, true≢false}
use native.Mathlib.Omega.{arith}
use Rattle.std.proofs.Common.{rules}
use Rattle.g9932.specs.Bits.{odd}
use Rattle.g9932.specs.Trellis.{next_state}
use Rattle.g9932.specs.declared.TrellisState.{TrellisState}
use Rattle.trellis.proofs.Numbers.{weight_from}
use Rattle.decoder.proofs.DecodePair.{decoded_first}
use Rattle.decoder.proofs.read_first.Goals as goal
use Rattle.decoder.proofs.read_first.Goals.{else-this-ne0-via-then-this-ne0+else-w0-w1, else-this-ne0-via-else-this-ne0}

pub returns-then-w0-w1 : goal.returns-then-w0-w1
unfolding odd
returns-then-w0-w1 g c =
    let p = decoded_first c.args.y c.args.w c.requires.0 c.requires.2.w_small in
    (search rules, sym p.obeys ∙ ap not c.if-w0-w1.true)

pub put-after-requires : goal.put-after-requires
unfolding odd
put-after-requires g c =
    let p = decoded_first c.args.y c.args.w c.requires.0 c.requires.2.w_small in
    (omega arith, rw (c.from.ensures, weight_from (odd c.args.w)) p.small, c.requires.2.bytes, c.requires.2.waits)

pub returns : goal.returns
unfolding odd
returns g c =
    let p = decoded_first c.args.y c.args.w c.requires.0 c.requires.2.w_small in
    record {
      obeys = λ e. elim c.else-this-ne0.branch [
        | else-this-ne0-via-then-this-ne0+else-w0-w1 w ↦ sym p.obeys ∙ ap not w.if-w0-w1.false
        | else-this-ne0-via-else-this-ne0 w ↦ absurd (true≢false (sym (rw w.if-this-ne0.false at e)))
      ];
      state = c.step-t.ensures.0 ∙ ap (λ (s : TrellisState). next_state s false (odd c.args.w)) c.zero_state.ensures ∙ p.next;
      puts = rw (c.from.ensures, weight_from (odd c.args.w), p.takes) at c.put-after.ensures;
    }
