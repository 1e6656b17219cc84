-- `tables::lists::count_marks` meets its contract. The invariant: the marks so far with those that are left are all.
use Rattle.std.proofs.Common.{◌≡◌, ◌+◌, ◌≤◌, drop}
use Rattle.tables.specs.Checks.{trues}
use Rattle.tables.proofs.lists.count_marks.Given as goal

abbrev pub invariant-loop-mark : goal.invariant-loop-mark
invariant-loop-mark l = (l.n + trues (drop l.mark-index l.seen) ≡ trues l.seen) × (l.n ≤ l.mark-index)
