-- `constellation::single::widening` meets its contract: each table agrees with Table 10-3 at its sixteen entries.
use native.Mathlib.Omega.{arith}
use mathlib.Core.Path.{refl}
use Rattle.g9932.specs.Bits.{first}
use Rattle.constellation.specs.Widened.{top_four}
use Rattle.constellation.proofs.Tops.{table_law}
use Rattle.constellation.proofs.single.widening.Goals as goal
use Rattle.constellation.proofs.single.widening.Goals.{else-q-lt16, then-q-lt16}

pub returns : goal.returns
unfolding first top_four
returns c =
    let q = c.args.q in
    elim c.if-q-lt16.branch [ then-q-lt16 w ↦ rw w.table-is (table_law _ 0 q (omega arith) refl) | else-q-lt16 w ↦ rw w.table-is (table_law _ 16 q (omega arith) refl) ]
