-- `constellation::map::widened_lifted` meets its contract.
use native.Mathlib.Omega.{arith}
use Prim.Native.Nat.{◌/◌}
use Rattle.constellation.proofs.Sizes.{four_lt}
use Rattle.constellation.proofs.map.widened_lifted.Goals as goal

pub overflow_mul-result : goal.overflow_mul-result
overflow_mul-result c = record { fits = omega (arith, c.top_four.ensures, four_lt (c.args.a / 2048) (omega arith)) }

pub overflow_add-result : goal.overflow_add-result
overflow_add-result c = record { fits = omega (arith, c.top_four.ensures, four_lt (c.args.a / 2048) (omega arith)) }
