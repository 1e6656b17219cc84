-- `plain_mapper::small::table_10_3` meets its contract: each arm is a row of the table.
use mathlib.Core.Path.{refl, sym}
use native.Mathlib.Omega.{arith}
use Rattle.g9932.specs.Bits.{first}
use Rattle.plain_mapper.proofs.Rows.{row}
use Rattle.plain_mapper.proofs.small.table_10_3.Goals as goal

pub returns-in-28 : goal.returns-in-28
unfolding first
returns-in-28 c = sym (row 7 28 30 refl c.args.label (grind arith) (omega arith))

pub returns-in_default : goal.returns-in_default
unfolding first
returns-in_default c = sym (row 11 30 32 refl c.args.label (omega arith) (omega arith))
