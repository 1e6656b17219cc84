use mathlib.Core.List.{List}
use lib.ListN.{take}
use native.Mathlib.Omega.{arith}
use Rattle.g9932.specs.Order.{filter}
use Rattle.g9932.specs.Sizes.{entry}
use Rattle.g9932.specs.Symbol.{class_at, classes_by}
use Rattle.g9932.specs.declared.Class.{Class}
use Rattle.plan.proofs.Steps.{tone_more, one_place, classes_more}
use Rattle.plan.specs.Plan.{is_placed}
use Rattle.plan.proofs.filing.file_tones.Goals as goal

pub loop-tone-preserved : goal.loop-tone-preserved
loop-tone-preserved c =
    let i = c.loop-tone.tone-index in
    let h = c.loop-tone-test.true in
    let t = c.args.t in
    let cs : List Class = filter (is_placed c.args.least) (classes_by t.bits.now t.gains.now (take i t.tones.now)) in
    let w = rw (c.tone_of-tone.ensures, c.bits_of-bits.ensures, c.gain_of.ensures, c.from.ensures) at c.file_tone-at.ensures in
    let k : Class = class_at t.bits.now t.gains.now (entry t.tones.now i) in
    let f = c.loop-tone.invariant.1 in
    (omega (arith, c.loop-tone.invariant.0, one_place c.args.least cs k f w), rw (classes_more c.args.least t.bits.now t.gains.now t.tones.now i h) (tone_more c.args.least cs k f w))
