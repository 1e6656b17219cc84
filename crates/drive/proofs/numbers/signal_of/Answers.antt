-- `drive::numbers::signal_of` meets its contract: the products lose nothing, and neither do the casts and the divisions.
use Rattle.drive.proofs.Products.{whole_floats, number_is, driven_told}
use mathlib.Core.Path.{ap₂}
use Rattle.g9932.specs.declared.Signal.TheVariants.{Driven}
use Rattle.drive.proofs.numbers.signal_of.Goals as goal

pub int_to_float-result : goal.int_to_float-result
int_to_float-result c = whole_floats c.args.gain c.args.p.x c.requires.gain_most c.requires.x_most

pub int_to_float-result-2 : goal.int_to_float-result-2
int_to_float-result-2 c = whole_floats c.args.gain c.args.p.y c.requires.gain_most c.requires.y_most

pub returns : goal.returns
returns c =
    let x = number_is c.args.gain c.args.p.x c.requires.gain_most c.requires.x_most in
    let y = number_is c.args.gain c.args.p.y c.requires.gain_most c.requires.y_most in
    rw (driven_told c.args.gain c.args.p.x c.requires.gain_most c.requires.x_most c.args.p.y c.if-across-eq0.false) (ap₂ Driven x y)
