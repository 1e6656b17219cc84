-- Laws of re-ordering: refused by the tables or for room, and done.
use Prim.Native.Nat.{ℕ}
use Rattle.std.specs.Prelude.{Ok, Err}
use mathlib.Core.Bool.{true, ◌||◌}
use mathlib.Core.List.{List}
use mathlib.Core.Path.{◌≡◌, sym, ◌∙◌}
use native.Mathlib.Omega.{arith}
use borrow.Author.Tests.{eq-eqb}
use lib.ListN.{length}
use lib.Seq.{take_all}
use Rattle.g9932.specs.Sizes.{Tables}
use Rattle.g9932.specs.Refusals.{accepted, room_test, table_verdict}
use Rattle.g9932.specs.Answers.{verdict_of, order_verdict, Reorders}
use Rattle.g9932.specs.declared.Refusal.{Refusal}
use Rattle.g9932.specs.declared.Refusal.TheVariants.{Room}
use Rattle.g9932.proofs.Accepted.{accepted_tables}
use Rattle.g9932.proofs.Verdicts.{test_here, test_past, number_none, and_refused, and_accepted, done_refused, done_accepted}
use Rattle.ordering.specs.Ordered.{Written}

module _ (T : Tables) (tones bits : List ℕ) where
  pub reorder_refused : (x : Refusal) → verdict_of (Err x) ≡ table_verdict T → Reorders T tones bits (Err x) tones bits
  unfolding order_verdict
  reorder_refused x e =
      let q : verdict_of (Err x) ≡ order_verdict T (length tones) (length bits) = and_refused x _ e in
      record { answer = q; tones_hold = done_refused x _ _ q; bits_hold = done_refused x _ _ q }

  module _ {l : ℕ} (e : accepted l ≡ table_verdict T) where
    pub room_refused : room_test (length tones) (length T.tones) || room_test (length bits) (length T.tones) ≡ true → Reorders T tones bits (Err Room) tones bits
    unfolding order_verdict
    room_refused f =
        let q : verdict_of (Err Room) ≡ order_verdict T (length tones) (length bits) = and_accepted l e (test_here 10 _ f) in
        record { answer = q; tones_hold = done_refused Room _ _ q; bits_hold = done_refused Room _ _ q }

    pub reordered : {tones_after bits_after : List ℕ} → length tones ≡ length T.tones → length bits ≡ length T.tones
        → length tones_after ≡ length tones → length bits_after ≡ length bits
        → Written T.mode T.bits T.tones tones_after bits_after → Reorders T tones bits (Ok l) tones_after bits_after
    unfolding order_verdict
    reordered {tones_after} {bits_after} p q u v w =
        let n = length T.tones in
        let z : accepted l ≡ order_verdict T (length tones) (length bits) =
        and_accepted l e (test_past 10 (simp (eq-eqb _ _ p, eq-eqb _ _ q)) (e ∙ (accepted_tables T (number_none e)).verdict)) in
        record {
          answer = z;
          tones_hold = sym (take_all n tones_after (omega arith)) ∙ w.tones ∙ done_accepted l _ _ z;
          bits_hold = sym (take_all n bits_after (omega arith)) ∙ w.bits ∙ done_accepted l _ _ z;
        }
