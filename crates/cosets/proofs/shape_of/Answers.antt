-- `cosets::shape_of` meets its contract, by the fields of a layout.
use mathlib.Core.Path.{refl}
use Rattle.cosets.proofs.Shapes.{sides_fit, sided}
use Rattle.cosets.proofs.shape_of.Goals as goal

pub invariant_of-result : goal.invariant_of-result
invariant_of-result c = record { sides = sides_fit c.args.layout c.requires }

pub returns : goal.returns
returns c = sided c.args.layout _ refl refl refl
