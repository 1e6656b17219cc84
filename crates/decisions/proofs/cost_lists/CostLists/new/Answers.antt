-- `decisions::cost_lists::CostLists::new` meets its contract: what stands at every place is small.
use Prim.Native.Nat.{ℕ, zero, suc, ◌≤◌}
use native.Mathlib.Omega.{arith}
use lib.ListN.{get_or, replicate}
use Rattle.decisions.proofs.cost_lists.CostLists.new.Goals as goal

small : (n v i : ℕ) → v ≤ 8388608 → get_or (replicate n v) i 0 ≤ 8388608
small zero v i h = omega arith
small (suc n) v zero h = h
small (suc n) v (suc i) h = small n v i h

pub invariant_of-result : goal.invariant_of-result
invariant_of-result c =
    record {
      small0 = λ i. small 4096 _ i (omega arith);
      small1 = λ i. small 4096 _ i (omega arith);
      small2 = λ i. small 4096 _ i (omega arith);
      small3 = λ i. small 4096 _ i (omega arith);
    }
