-- `constellation::single::label_of` meets its contract: one label is left, and the grid tells whether it is the point's.
use Rattle.std.proofs.Common.{rules}
use Rattle.std.specs.Bool.{then_some}
use native.Mathlib.Omega.{arith}
use Prim.Native.Nat.{ℕ, ◌*◌}
use mathlib.Core.Bool.{not}
use mathlib.Core.Path.{◌≡◌, refl, sym, ap, ◌∙◌}
use Rattle.g9932.specs.Points.{same_point}
use Rattle.g9932.specs.Sizes.{point}
use Rattle.constellation.specs.Widened.{coordinate_of}
use Rattle.constellation.specs.DemapByLayout.{BitsOf}
use Rattle.constellation.proofs.OnePoint.{power, power_is, held_bits, held_points, other, word_small, six_small, zeros_below, told}
use Rattle.constellation.proofs.single.label_of.Goals as goal
use Rattle.constellation.proofs.single.label_of.Goals.{After-ne}

-- the bits of the coordinates, and whether the point is that of its bits
module _ (c : After-ne) where
  abbrev weight : ℕ
  weight = 4 * power c.plain_pairs-k.result

  x_bits : BitsOf weight c.args.p.x c.axis_bits-ex.result
  x_bits = held_bits c.args.p.x (search rules) c.axis_bits-ex.ensures

  y_bits : BitsOf weight c.args.p.y c.axis_bits-ey.result
  y_bits = held_bits c.args.p.y (search rules) c.axis_bits-ey.ensures

  differ : c.ne.result ≡ not (same_point (point (coordinate_of weight c.axis_bits-ex.result) (coordinate_of weight c.axis_bits-ey.result)) (point c.args.p.x c.args.p.y))
  differ =
      let own = point c.coordinate_of.result c.coordinate_of-2.result in
      rw (c.coordinate_of.ensures, c.coordinate_of-2.ensures)
      at (held_points own (point c.args.p.x c.args.p.y) (record { sfits = c.coordinate_of.type_inv }) (record { sfits = c.coordinate_of-2.type_inv }) c.ne.ensures)

pub coordinate_of-requires : goal.coordinate_of-requires
coordinate_of-requires c =
    let p = power_is c.plain_pairs-k.result (omega (arith, c.plain_pairs-k.ensures)) in
    (p.1, p.2, omega (arith, p, c.axis_bits-ex.ensures.small))

pub coordinate_of-requires-2 : goal.coordinate_of-requires-2
coordinate_of-requires-2 c =
    let p = power_is c.plain_pairs-k.result (omega (arith, c.plain_pairs-k.ensures)) in
    (p.1, p.2, omega (arith, p, c.axis_bits-ey.ensures.small))

pub interleave-word-requires : goal.interleave-word-requires
interleave-word-requires c =
    let p = power_is c.plain_pairs-k.result (omega (arith, c.plain_pairs-k.ensures)) in
    (omega (arith, p, c.axis_bits-ex.ensures.small), omega (arith, p, c.axis_bits-ey.ensures.small))

pub returns-then-ne : goal.returns-then-ne
returns-then-ne c =
    let a = c.args in
    let s = (goal.at.returns-then-ne c).After-ne in
    other a.b c.plain_pairs-k.result a.p.x a.p.y _ _ c.requires.0 c.requires.1 c.plain_pairs-k.ensures (x_bits s) (y_bits s) (sym (differ s) ∙ c.if-ne.true)

pub overflow_mul-six : goal.overflow_mul-six
overflow_mul-six c =
    let a = c.args in
    let s = (goal.at.overflow_mul-six c).After-ne in
    let word = rw (c.from.ensures, c.from-2.ensures) at c.interleave-word.ensures in
    let small =
    word_small a.b c.plain_pairs-k.result a.p.x a.p.y _ _ c.requires.0 c.requires.1 c.plain_pairs-k.ensures (x_bits s) (y_bits s) c.interleave-word.result word in
    record { fits = omega (arith, small) }

pub in_grid-requires : goal.in_grid-requires
in_grid-requires c =
    let a = c.args in
    let s = (goal.at.in_grid-requires c).After-ne in
    let word = rw (c.from.ensures, c.from-2.ensures) at c.interleave-word.ensures in
    let k = c.plain_pairs-k in (
      c.requires.0,
      six_small a.b k.result a.p.x a.p.y _ _ c.requires.0 c.requires.1 k.ensures (x_bits s) (y_bits s) c.interleave-word.result word,
      zeros_below a.b k.result a.p.x a.p.y _ _ c.requires.0 c.requires.1 k.ensures (x_bits s) (y_bits s) c.interleave-word.result word,
    )

pub narrowed_word-requires : goal.narrowed_word-requires
narrowed_word-requires c =
    let a = c.args in
    let s = (goal.at.narrowed_word-requires c).After-ne in
    let word = rw (c.from.ensures, c.from-2.ensures) at c.interleave-word.ensures in
    let k = c.plain_pairs-k in
    (omega (arith, k.ensures), six_small a.b k.result a.p.x a.p.y _ _ c.requires.0 c.requires.1 k.ensures (x_bits s) (y_bits s) c.interleave-word.result word, refl)

pub returns : goal.returns
returns c =
    let a = c.args in
    let s = (goal.at.returns c).After-ne in
    let word = rw (c.from.ensures, c.from-2.ensures) at c.interleave-word.ensures in
    c.then_some.ensures ∙ ap (then_some c.in_grid.result) c.own_label.ensures
    ∙ told a.b c.plain_pairs-k.result a.p.x a.p.y _ _ c.requires.0 c.requires.1 c.plain_pairs-k.ensures (x_bits s) (y_bits s) c.interleave-word.result word
    (sym (differ s) ∙ c.if-ne.false) c.in_grid.result c.in_grid.ensures c.narrowed_word.result c.narrowed_word.ensures
