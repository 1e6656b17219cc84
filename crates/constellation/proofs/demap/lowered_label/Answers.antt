-- `constellation::demap::lowered_label` meets its contract: one product, whose upper half is the label.
use Rattle.constellation.proofs.DemapByLayout.{square_le, product_le, down_law}
use native.Mathlib.Omega.{arith}
use Rattle.constellation.proofs.demap.lowered_label.Goals as goal

pub overflow_mul-m-2 : goal.overflow_mul-m-2
overflow_mul-m-2 c = record { fits = omega (arith, square_le c.args.m c.requires.0) }

pub overflow_mul-result : goal.overflow_mul-result
overflow_mul-result c = record { fits = omega (arith, rw (← c.from.ensures, ← c.from-2.ensures) at (product_le c.args.m c.args.three c.args.word c.requires.0 c.requires.1)) }

pub overflow_cast-result : goal.overflow_cast-result
overflow_cast-result c = record { fits = omega (arith, rw (← c.from.ensures, ← c.from-2.ensures) at (product_le c.args.m c.args.three c.args.word c.requires.0 c.requires.1)) }

pub returns : goal.returns
returns c = rw (c.from.ensures, c.from-2.ensures) (down_law c.args.m c.args.three c.args.word)
