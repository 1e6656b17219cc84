-- `ordering::reorder` meets its contract: a lent buffer is written only where neither 1 to 8 nor 10 refuses.
use Rattle.std.proofs.Common.{◌≡◌, true, ◌||◌, length, arith}
use Rattle.std.proofs.lemmas.Bool.{eq-eqb, ne_eqb}
use Rattle.g9932.proofs.Accepted.{accepted_tables}
use Rattle.g9932.proofs.Verdicts.{number_none, passed_on}
use Rattle.g9932.specs.Sizes.{tables_of}
use Rattle.ordering.proofs.Answers.{reorder_refused, room_refused, reordered}
use Rattle.ordering.proofs.reorder.Goals as goal
use Rattle.ordering.proofs.reorder.Goals.{then-tones_out-t-via-then-tones_out-t, then-tones_out-t-via-else-tones_out-t+then-bits_out-t}
use Rattle.g9932.specs.Refusals.{room_test}

pub returns-in_err-frame : goal.returns-in_err-frame
returns-in_err-frame c =
    rw (passed_on c.from_residual.result c.from_residual.ensures.1) (reorder_refused _ _ _ _ c.in_err-frame.ensures.answer)

pub returns-then-tones_out-t : goal.returns-then-tones_out-t
returns-then-tones_out-t c =
    let n = length c.args.t.tones.now in
    let wrong : room_test (length c.args.tones_out.now) n || room_test (length c.args.bits_out.now) n ≡ true =
    elim c.then-tones_out-t.branch [
      | then-tones_out-t-via-then-tones_out-t w ↦ rw (ne_eqb _ _ w.if-tones_out-t.true)
      | then-tones_out-t-via-else-tones_out-t+then-bits_out-t w ↦ rw (eq-eqb _ _ w.if-tones_out-t.false, ne_eqb _ _ w.if-bits_out-t.true)
    ] in
    room_refused _ _ _ c.in_ok-frame.ensures.answer wrong

pub write_order-requires : goal.write_order-requires
write_order-requires c =
    let h = c.in_ok-frame.ensures.shares in
    let k = accepted_tables (tables_of c.args.mode c.args.t) (number_none c.in_ok-frame.ensures.answer) in
    record { fits = record { tones_fit = omega arith; bits_fit = omega arith }; below = k.tones_below; entries_are = h.0; sharers_are = h.1; even = h.2 }

pub returns : goal.returns
returns c =
    reordered _ _ _ c.in_ok-frame.ensures.answer c.if-tones_out-t.false c.if-bits_out-t.false c.write_order.auto.reordered_tones c.write_order.auto.reordered_bits c.write_order.ensures
