-- `constellation::single::in_grid` meets its contract: each table agrees with the words of all labels, at its 64 or 16 sixes.
use native.Mathlib.Omega.{arith}
use mathlib.Core.Path.{refl}
use borrow.Author.Tests.{ne_eqb}
use Prim.Native.Nat.{◌%◌}
use Rattle.g9932.specs.Bits.{first}
use Rattle.constellation.specs.Widened.{top_five, top_four, widened_label}
use Rattle.constellation.specs.Reading.{in_grid}
use Rattle.constellation.proofs.Grid.{even_table, small_table, grid_table}
use Rattle.constellation.proofs.single.in_grid.Goals as goal

pub returns-then-b-eq0 : goal.returns-then-b-eq0
unfolding first top_five top_four widened_label in_grid
returns-then-b-eq0 c =
    even_table _ refl refl c.args.b c.args.six c.requires.0 c.if-b-eq0.true c.requires.1 c.requires.2

pub returns-then-b-eq1 : goal.returns-then-b-eq1
unfolding first top_five top_four widened_label in_grid
returns-then-b-eq1 c =
    let e = c.if-b-eq1.true in
    rw e (small_table _ 1 refl c.args.six c.requires.1 (c.requires.2 (omega arith)))

pub returns-then-b-eq3 : goal.returns-then-b-eq3
unfolding first top_five top_four widened_label in_grid
returns-then-b-eq3 c =
    let e = c.if-b-eq3.true in
    rw e (small_table _ 3 refl c.args.six c.requires.1 (c.requires.2 (omega arith)))

pub returns : goal.returns
unfolding first top_four
returns c =
    let e = c.if-b-eq0.false in
    let f = c.if-b-eq1.false in
    let g = c.if-b-eq3.false in
    grid_table _ 32 refl c.args.b c.args.six (omega arith) (rw (ne_eqb (c.args.b % 2) 0 e)) c.requires.1
