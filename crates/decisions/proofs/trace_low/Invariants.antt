-- `decisions::trace_low` meets its contract. The invariant: the entries before k have the lowest bits that the survivors give, and the number
-- is that of the state before entry k. The measure is the entries left.
use lib.ListN.{length}
use Rattle.decisions.proofs.Tracing.{Tracing}
use Rattle.decisions.proofs.trace_low.Given as goal

abbrev pub invariant-loop-k : goal.invariant-loop-k
invariant-loop-k l = Tracing l.places (length l.initial.labels) l.survivors l.labels l.state.number l.k
