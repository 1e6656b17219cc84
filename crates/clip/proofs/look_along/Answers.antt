use Rattle.std.proofs.Common.{◌≡◌, eqb, not, sym, ◌∙◌, arith}
use Rattle.g9932.specs.Order.{is_one}
use Rattle.tables.proofs.Counting.{test_weight}
use Rattle.std.proofs.Math.ListN.{length-map, drop_of_length-le}
use Rattle.g9932.specs.Sizes.{entry}
use Rattle.g9932.specs.Symbol.{class_at, classes_by}
use Rattle.clip.specs.Tones.{is_monitored_in, along, look}
use Rattle.clip.proofs.Look.{look_here, look_past, past_by}
use Rattle.clip.proofs.look_along.Goals as goal
use Rattle.clip.proofs.look_along.Goals.{After-is_monitored}

-- what is asked is whether the tone at place i of t is monitored
asked : (c : After-is_monitored) → c.is_monitored.result ≡ is_monitored_in c.args.t.bits.now c.args.t.gains.now (entry c.args.t.tones.now c.loop-tone.tone-index)
asked c = c.is_monitored.ensures ∙ rw (c.gain_of.ensures, c.bits_of-b.ensures, c.from.ensures)

pub returns-then-is_monitored : goal.returns-then-is_monitored
returns-then-is_monitored c =
    let t = c.args.t in
    look_here t.bits.now t.gains.now t.tones.now c.loop-tone.tone-index (omega arith) (along c.loop-tone.place c.loop-tone.silent) (sym (asked (goal.at.returns-then-is_monitored c).After-is_monitored) ∙ c.if-is_monitored.true) ∙ c.loop-tone.invariant.goes_on

pub loop-tone-preserved : goal.loop-tone-preserved
loop-tone-preserved c =
    let t = c.args.t in
    let b = c.bits_of-b.result in
    let p = test_weight (not (is_one b)) in
    let s = test_weight (eqb b 0) in
    record {
      place_most = omega (arith, c.from-place.ensures);
      silent_most = omega (arith, c.from-silent.ensures);
      goes_on =
          rw (c.from-place.ensures, p.0, c.from-silent.ensures, s.0, past_by b c.gain_of.result c.loop-tone.place c.loop-tone.silent, c.bits_of-b.ensures, c.gain_of.ensures, c.from.ensures)
          (look_past t.bits.now t.gains.now t.tones.now c.loop-tone.tone-index (omega arith) (along c.loop-tone.place c.loop-tone.silent) (sym (asked (goal.at.loop-tone-preserved c).After-is_monitored) ∙ c.if-is_monitored.false)
          ∙ c.loop-tone.invariant.goes_on);
    }

pub returns : goal.returns
unfolding look
returns c =
    let t = c.args.t in
    let e = drop_of_length-le (classes_by t.bits.now t.gains.now t.tones.now) {i = c.loop-tone.tone-index} (omega (arith, length-map t.tones.now (class_at t.bits.now t.gains.now))) in
    rw e at c.loop-tone.invariant.goes_on
