use Rattle.std.proofs.Common.{Bool, sym, ap, ◌∙◌, arith}
use Rattle.g9932.specs.Sizes.{entry}
use Rattle.tables.specs.Checks.{index_by}
use Rattle.tables.proofs.Scans.{any_none, any_more}
use Rattle.tables.proofs.lists.any_index_fault.Goals as goal

pub loop-i-init : goal.loop-i-init
loop-i-init c = any_none _

pub loop-i-preserved : goal.loop-i-preserved
loop-i-preserved c =
    let i = c.loop-i.i in
    let m = c.requires.marks i (omega arith) in
    let e = ap (λ (in_t : Bool). index_by in_t (entry c.args.t.bits.now i) (entry c.args.t.gains.now i)) (sym m) ∙ sym c.is_fault-any.ensures in
    any_more _ i c.loop-i.invariant e
