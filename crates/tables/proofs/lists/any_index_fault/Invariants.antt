-- `tables::lists::any_index_fault` meets its contract. The invariant: `any` tells of the indices before i.
use Rattle.std.proofs.Common.{◌≡◌}
use Rattle.tables.specs.Checks.{any_below, index_fault}
use Rattle.tables.proofs.lists.any_index_fault.Given as goal

abbrev pub invariant-loop-i : goal.invariant-loop-i
invariant-loop-i l = l.any ≡ any_below (index_fault l.t.bits.now l.t.gains.now l.t.tones.now) l.i
