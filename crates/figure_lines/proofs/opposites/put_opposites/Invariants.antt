-- `figure_lines::opposites::put_opposites` meets its contract. The invariant: the coordinates so far are opposites, the others as they were.
use Rattle.std.proofs.Common.{◌≡◌, ℕ, ◌<◌, ◌≤◌, pos, get_or}
use Rattle.figure_lines.specs.Turned.{Opposite}
use Rattle.figure_lines.proofs.opposites.put_opposites.Given as goal

abbrev pub invariant-loop-z : goal.invariant-loop-z
invariant-loop-z l = record {
  left : (k : ℕ) → l.z-index ≤ k → get_or l.list k (pos 0) ≡ get_or l.initial.list k (pos 0);
  put : (k : ℕ) → k < l.z-index → Opposite (get_or l.initial.list k (pos 0)) (get_or l.list k (pos 0));
}
