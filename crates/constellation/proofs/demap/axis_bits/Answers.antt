-- `constellation::demap::axis_bits` meets its contract: a mask below the sign bit.
use mir.Syntax.{w16}
use mir.ValLaws.{to_z-of_z}
use Rattle.constellation.proofs.Signed.{bits_law}
use Rattle.constellation.proofs.demap.axis_bits.Goals as goal

pub returns : goal.returns
returns c = bits_law c.args.m c.raised.result c.args.z c.requires (rw (to_z-of_z w16 c.args.z c.ranges.z) at c.raised.ensures)
