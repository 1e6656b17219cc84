-- `decoder::read_pair` meets its contract: the word of the labels is checked against the state, and its frame bits are put.
use mathlib.Core.Path.{sym, ◌∙◌}
use native.Mathlib.Omega.{arith}
use Rattle.decoder.proofs.DecodePair.{PairDecoded, decoded_high, decoded_pair, both_true, not_both}
use Rattle.decoder.proofs.read_pair.Given.{Over}
use Rattle.decoder.proofs.read_pair.Goals as goal
use Rattle.decoder.proofs.read_pair.Goals.{After-decode_word-u}

decoded : (g : Over) (c : After-decode_word-u g) → PairDecoded c.args.forced c.args.c.state c.args.x c.args.y c.args.v c.args.w c.decode_word-u.result
decoded g c =
    let n = c.requires in
    decoded_pair c.args.x c.args.y c.args.v c.args.w n.0 n.2 n.4.v_small n.4.w_small c.decode_word-u.result c.decode_word-u.ensures c.args.forced c.args.c.state

pub taken_number-requires : goal.taken_number-requires
taken_number-requires g c =
    let n = c.requires in
    decoded_high c.args.x c.args.y c.args.v c.args.w n.0 n.2 n.4.v_small n.4.w_small c.decode_word-u.result c.decode_word-u.ensures n.1 n.3

pub put-writer-requires : goal.put-writer-requires
put-writer-requires g c =
    let p = decoded g (goal.at.put-writer-requires g c).After-decode_word-u in
    let n = c.taken_count-count.ensures in
    (omega (arith, n.1), rw (n.0, c.taken_number.ensures) p.small, c.requires.4.bytes, c.requires.4.waits)

pub returns-then-breaks : goal.returns-then-breaks
returns-then-breaks g c =
    let p = decoded g (goal.at.returns-then-breaks g c).After-decode_word-u in
    let b = both_true _ c.obeys_code.result c.if-breaks.true in
    (b.0, sym p.obeys ∙ sym c.obeys_code.ensures ∙ b.1)

pub returns : goal.returns
returns g c =
    let p = decoded g (goal.at.returns g c).After-decode_word-u in
    record {
      obeys = λ e. sym p.obeys ∙ sym c.obeys_code.ensures ∙ not_both _ c.obeys_code.result c.if-breaks.false e;
      state = c.step-t.ensures.0 ∙ p.next;
      puts = rw (c.taken_count-count.ensures.0, c.taken_number.ensures, p.takes) at c.put-writer.ensures;
    }
