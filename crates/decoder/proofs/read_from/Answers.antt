use native.Mathlib.Omega.{arith}
use Rattle.decoder.proofs.DecodeLoop.{decoding_start, decoding_to, decoding_end, at_pair, decoding_broken, decoding_step}
use Rattle.decoder.proofs.read_from.Goals as goal

pub loop-n-init : goal.loop-n-init
loop-n-init g c = decoding_to (decoding_start c.requires.3) (omega arith)

pub returns-in-None : goal.returns-in-None
returns-in-None g c =
    decoding_broken (at_pair c.requires.0 c.loop-n.invariant (omega arith) c.entry-x.ensures c.entry-y.ensures c.entry_label-v.ensures c.entry_label-w.ensures) c.in-None.ensures.0 c.in-None.ensures.1

pub loop-n-preserved : goal.loop-n-preserved
loop-n-preserved g c =
    decoding_to
    (decoding_step (at_pair c.requires.0 c.loop-n.invariant (omega arith) c.entry-x.ensures c.entry-y.ensures c.entry_label-v.ensures c.entry_label-w.ensures) c.in-Some.ensures c.read_pair.auto.frame)
    (omega arith)

pub returns : goal.returns
returns g c = decoding_end c.loop-n.invariant (omega arith)
