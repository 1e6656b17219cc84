-- `drive::numbers::numbers_of` meets its contract. The literal 0.0 is 0 / 512.
use lib.Ieee.{of_bits, odd}
use mathlib.Core.Path.{refl}
use Rattle.g9932.specs.Drive.{over512}
use Rattle.drive.proofs.numbers.numbers_of.Goals as goal

pub returns-in-Silent : goal.returns-in-Silent
unfolding of_bits over512 odd
returns-in-Silent c = rw c.in-Silent.is (refl, refl)
