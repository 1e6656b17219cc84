-- `constellation::points::point_table` meets its contract: the checker computes the test of the whole table.
use mathlib.Core.Path.{refl}
use Rattle.g9932.specs.Bits.{weight, num, odd, bits, first}
use Rattle.g9932.specs.Points.{twos_complement, point_of}
use Rattle.constellation.proofs.StoredPoints.{stored}
use Rattle.constellation.proofs.points.point_table.Goals as goal

pub returns : goal.returns
unfolding weight num odd bits first twos_complement point_of
returns c = stored _ refl
