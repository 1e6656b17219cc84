-- `decoder::read_pairs` meets its contract: an odd count of entries begins with the pair of a 0 and the first entry, an even one with the
-- first two.
use native.Mathlib.Omega.{arith}
use Rattle.decoder.proofs.DecodeAll.{even_read, first_broken, odd_needs, odd_read}
use Rattle.frame.proofs.Labels.{placed_length}
use Rattle.decoder.proofs.read_pairs.Goals as goal

pub returns-then-entries-eq0 : goal.returns-then-entries-eq0
returns-then-entries-eq0 g c =
    even_read c.requires.1 (placed_length c.requires.0) (λ e. omega (arith, e, c.if-entries-eq0.true)) _ c.read_from.result _ (rw c.zero_state.ensures at c.read_from.ensures)

pub read_from-requires-in-Some : goal.read_from-requires-in-Some
read_from-requires-in-Some g c =
    let n = odd_needs c.requires.1 (placed_length c.requires.0) (omega (arith, c.if-entries-eq0.false)) c.entry-y.ensures c.entry_label-w.ensures c.in-Some.ensures c.read_first.auto.frame in
    (c.requires.1.wide, c.requires.1.many, c.requires.0, n)

pub returns-in-Some : goal.returns-in-Some
returns-in-Some g c =
    odd_read c.requires.1 (placed_length c.requires.0) (omega (arith, c.if-entries-eq0.false)) c.entry-y.ensures c.entry_label-w.ensures c.in-Some.ensures c.read_from-in-Some.result _ c.read_from-in-Some.ensures

pub returns-in-None : goal.returns-in-None
returns-in-None g c =
    (c.in-None.ensures.0, first_broken c.requires.1 (placed_length c.requires.0) (omega (arith, c.if-entries-eq0.false)) c.entry-y.ensures c.entry_label-w.ensures c.in-None.ensures.1)
