use mathlib.Core.Path.{refl, ap}
use native.Mathlib.Omega.{arith}
use lib.Dec.{ltb}
use lib.ListN.{drop_of_length-le}
use Rattle.g9932.specs.Order.{sum, count, is_one}
use Rattle.g9932.proofs.Members.{sum_members}
use Rattle.tables.proofs.Counting.{count_table}
use Rattle.tables.proofs.count_tones.Goals as goal

pub returns : goal.returns
returns c =
    let a = c.args in
    let m = c.requires in
    let e = drop_of_length-le a.bits.now {i = c.loop-b.b-index} (omega arith) in
    let e0 = ap sum e in
    let e1 = ap (count (ltb 0)) e in
    let e2 = ap (count is_one) e in
    let s = sum_members a.tones.now a.bits.now m.once m.below m.stray_bits in
    let l = count_table (ltb 0) refl a.bits.now a.tones.now m in
    let o = count_table is_one refl a.bits.now a.tones.now m in
    record { sum_is = omega arith; loaded_is = omega arith; ones_is = omega arith }
