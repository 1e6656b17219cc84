-- `constellation::single::point_by_rule` meets its contract: the word of the label, taken apart.
use native.Mathlib.Omega.{arith}
use Prim.Native.Nat.{◌+◌, ◌*◌}
use mathlib.Core.Path.{◌≡◌, sym, ap, ap₂, ◌∙◌}
use native.Mathlib.Nat.{lt_of_lt_of_le}
use lib.Pow.{pow_mono}
use mir.Syntax.{w16}
use mir.ValLaws.{to_z-of_z}
use Rattle.g9932.specs.Sizes.{point}
use Rattle.constellation.specs.Widened.{plain_pairs, widened_label, label_word, coordinate_of}
use Rattle.constellation.proofs.Mapping.{point_word, Parts, parts_law}
use Rattle.constellation.proofs.OnePoint.{power_is, weight_is}
use Rattle.constellation.proofs.Sizes.{large_word, word_lt, word_16}
use Rattle.constellation.proofs.single.point_by_rule.Goals as goal
use Rattle.constellation.proofs.single.point_by_rule.Goals.{After-deinterleave-both, After-widened_label}

word : (c : After-widened_label) → c.widened_label.result ≡ label_word c.args.b c.args.label
word c =
    c.widened_label.ensures ∙ ap (λ k. widened_label k c.args.label) c.plain_pairs-k.ensures ∙ sym (large_word c.args.b c.args.label (omega arith))

parts : (c : After-deinterleave-both) → Parts c.args.b c.args.label c.deinterleave-both.result
parts c =
    parts_law c.args.b c.args.label c.deinterleave-both.result (omega arith) c.requires.1 c.requires.2 (rw (word c.before) at c.deinterleave-both.ensures)

pub widened_label-requires : goal.widened_label-requires
widened_label-requires c =
    let e = c.plain_pairs-k.ensures in
    (omega (arith, e), omega (arith, e), rw e (lt_of_lt_of_le c.requires.2 (pow_mono {i = c.args.b} {j = 2 * plain_pairs c.args.b + 3} (omega arith))))

pub deinterleave-both-requires : goal.deinterleave-both-requires
deinterleave-both-requires c =
    rw (word c) (word_16 (plain_pairs c.args.b) (label_word c.args.b c.args.label) (omega arith) (word_lt c.args.b c.args.label (omega arith) c.requires.2))

pub coordinate_of-requires : goal.coordinate_of-requires
coordinate_of-requires c =
    let p = power_is c.plain_pairs-k.result (omega (arith, c.plain_pairs-k.ensures)) in
    (p.1, p.2, (parts c).x_small)

pub coordinate_of-requires-2 : goal.coordinate_of-requires-2
coordinate_of-requires-2 c =
    let p = power_is c.plain_pairs-k.result (omega (arith, c.plain_pairs-k.ensures)) in
    (p.1, p.2, (parts (goal.at.coordinate_of-requires-2 c).After-deinterleave-both).y_small)

pub returns : goal.returns
returns c =
    let a = c.args in
    let x = to_z-of_z w16 c.coordinate_of.result (record { sfits = c.coordinate_of.type_inv }) in
    let y = to_z-of_z w16 c.coordinate_of-2.result (record { sfits = c.coordinate_of-2.type_inv }) in
    let h = weight_is a.b c.plain_pairs-k.result (omega (arith, c.plain_pairs-k.ensures)) c.plain_pairs-k.ensures in
    let both = parts (goal.at.returns c).After-deinterleave-both in
    ap₂ point (x ∙ c.coordinate_of.ensures ∙ ap₂ coordinate_of h both.x) (y ∙ c.coordinate_of-2.ensures ∙ ap₂ coordinate_of h both.y)
    ∙ sym (point_word a.b a.label (omega arith) c.requires.1 c.requires.2)
