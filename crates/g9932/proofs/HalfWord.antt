-- Half a turn of one pair: both lowest bits of each label are complemented. So u3 is the other one, and u0, u1 and u2 stay;
-- where the pair has no v, u2 is the other one, and u0 and u1 stay. What this does to the code's test and to the next state.
use Prim.Native.Nat.{ℕ, zero, suc, ◌≤◌}
use mathlib.Core.Bool.{Bool, true, false, not, true≢false, false≢true}
use mathlib.Core.List.{List, [], ◌++◌}
use mathlib.Core.Path.{◌≡◌, refl, ap, ◌∙◌}
use native.Mathlib.Omega.{arith}
use lib.ListN.{length}
use Rattle.g9932.specs.Bits.{◌⊕◌, bit}
use Rattle.g9932.specs.Trellis.{Word, next_of, implied, same, obeys_code, taken_bits}
use Rattle.g9932.specs.declared.TrellisState.{TrellisState}
use Rattle.g9932.proofs.Identities.{bits_agree, xor_false, xor_not, and-false}
use Rattle.g9932.proofs.OnePair.{forced_obeys, same_not}
use Rattle.g9932.proofs.Quarters.{turned_label, lowest_turned, half}
use Rattle.g9932.proofs.Turns.{both_u0, both_u2, lone_u0, turned_parity}

-- ---- bits

not_xor : (a b : Bool) → not a ⊕ b ≡ not (a ⊕ b)
not_xor = bits_agree 2 (λ a b. not a ⊕ b) (λ a b. not (a ⊕ b)) refl

pub not_self : (b : Bool) → b ≡ not b → ⊥
not_self true e = true≢false e
not_self false e = false≢true e

-- ---- the word of a turned pair

pub record Turned (u t : Word) : Type 0 where
  pub same0 : t.u0 ≡ u.u0
  pub same1 : t.u1 ≡ u.u1
  pub same2 : t.u2 ≡ u.u2
  pub other3 : t.u3 ≡ not u.u3

pub record TurnedLone (u t : Word) : Type 0 where
  pub same0 : t.u0 ≡ u.u0
  pub same1 : t.u1 ≡ u.u1
  pub other2 : t.u2 ≡ not u.u2

pub both_turned : (v w : List Bool) → 2 ≤ length v → 2 ≤ length w → Turned (implied v w) (implied (turned_label 2 v) (turned_label 2 w))
both_turned v w h k =
    record {
      same0 = both_u0 half v w h k;
      same1 = turned_parity half v h ∙ xor_false (bit v 0 ⊕ bit v 1);
      same2 = both_u2 half v w h k;
      other3 = (lowest_turned 2 v h).0;
    }

pub lone_turned : (w : List Bool) → 2 ≤ length w → TurnedLone (implied [] w) (implied [] (turned_label 2 w))
lone_turned w h =
    record {
      same0 = lone_u0 half w h ∙ xor_false (implied [] w).u0;
      same1 = refl;
      other2 = ap (λ (c : Bool). false ⊕ c) (lowest_turned 2 w h).0 ∙ xor_not false (bit w 0);
    }

-- ---- from the same state

pub turned_obeys : (forced : Bool) (s : TrellisState) (u t : Word) → Turned u t → obeys_code forced s t ≡ obeys_code forced s u
turned_obeys false s u t h = rw h.same0
turned_obeys true s u t h = rw (h.same0, h.same1, h.same2)

pub turned_next : (s : TrellisState) (u t : Word) → Turned u t → next_of s t ≡ next_of s u
turned_next s u t h = rw (h.same1, h.same2)

-- the frame bits differ
pub taken_differ : (forced : Bool) (x : ℕ) (u t : Word) (f g : List Bool) → 2 ≤ x → Turned u t → taken_bits forced x u ++ f ≡ taken_bits forced x t ++ g → ⊥
unfolding taken_bits
taken_differ forced zero u t f g h d e = absurd (omega arith)
taken_differ false (suc x) u t f g h d e = not_self u.u3 (ap (λ (l : List Bool). bit l 2) e ∙ d.other3)
taken_differ true (suc x) u t f g h d e = not_self u.u3 (ap (λ (l : List Bool). bit l 0) e ∙ d.other3)

-- ---- from states that differ in S1: after a pair with no v, S2 aside

pub record OffOne (a b : TrellisState) : Type 0 where
  pub off1 : b.s1 ≡ not a.s1
  pub like3 : b.s3 ≡ a.s3
  pub like0 : b.s0 ≡ a.s0

pub lone_off : (s : TrellisState) (u t : Word) → TurnedLone u t → OffOne (next_of s u) (next_of s t)
lone_off s u t h = record { off1 = rw h.other2 (xor_not s.s2 u.u2); like3 = refl; like0 = rw h.same1 }

-- a pair that is not forced obeys the code, and S0 differs after it
pub off_free : (a b : TrellisState) (u t : Word) → OffOne a b → Turned u t → obeys_code false b t ≡ obeys_code false a u
off_free a b u t o h = rw (h.same0, o.like0)

pub off_next : (a b : TrellisState) (u t : Word) → OffOne a b → Turned u t → (next_of b t).s0 ≡ not (next_of a u).s0
off_next a b u t o h = rw (h.same1, o.off1, o.like3, not_xor a.s1 a.s3, not_xor (a.s1 ⊕ a.s3) u.u1)

-- a forced pair breaks it, by its u1
pub off_forced : (a b : TrellisState) (u t : Word) → OffOne a b → Turned u t → obeys_code true a u ≡ true → obeys_code true b t ≡ false
off_forced a b u t o h k =
    let e = (forced_obeys u.u0 a.s0 u.u1 (a.s1 ⊕ a.s3) u.u2 a.s2 k).1 in
    rw (h.same1, o.off1, o.like3, not_xor a.s1 a.s3, e, same_not (a.s1 ⊕ a.s3))
    (and-false (same t.u0 b.s0) (same t.u2 b.s2))
