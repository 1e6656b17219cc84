-- Following the survivors from the zero state: the two lowest bits of each entry's label.
use Prim.Native.Nat.{ℕ, suc, ◌+◌, ◌/◌, ◌%◌, ◌≤◌, ◌<◌}
use mathlib.Core.Bool.{Bool, true, false}
use mathlib.Core.List.{List}
use mathlib.Core.Path.{◌≡◌, refl, sym, ap, subst, ◌∙◌}
use native.Mathlib.Numerals.{add-one}
use native.Mathlib.Omega.{arith}
use borrow.Author.Tests.{ltb-true, ltb-false}
use lib.Dec.{ltb}
use lib.ListN.{length, set, length-set}
use lib.Seq.{get_or-set_same, get_or-set_other}
use Rattle.frame.specs.Labels.{Rising}
use Rattle.g9932.proofs.Words.{weight_le}
use Rattle.g9932.specs.Bits.{odd}
use Rattle.g9932.specs.Sizes.{entry}
use Rattle.g9932.specs.declared.LowBits.{LowBits}
use Rattle.g9932.specs.declared.TrellisState.{TrellisState}
use Rattle.paths.specs.Paths.{after, low_by}
use Rattle.paths.specs.Survivors.{survivor, Followed, state_at, low_at}
use Rattle.trellis.specs.Steps.{state_at as state_of}
use Rattle.trellis.specs.declared.PairCode.{PairCode}
use Rattle.trellis.specs.declared.by_number.StateNumber.{StateNumber}
use Rattle.decisions.specs.Deciding.{lone_in, upper_at, lower_at, low_number, StateBefore, LowTraced}

-- ---- one entry more

module _ {ps σ labels : List ℕ} (rising : Rising ps (length labels)) where
  pub traced_more : {n l : ℕ} {after : List ℕ} → n < length ps → LowTraced ps σ labels n → after ≡ set labels (entry ps n) l → l ≡ low_number (upper_at σ (lone_in ps + n)) (lower_at σ (lone_in ps + n))
      → LowTraced ps σ after (suc n)
  traced_more {n} {l} {after} h old put is = record { low = λ k q. by (ltb k n) k refl q }
    where
      here : entry after (entry ps n) ≡ low_number (upper_at σ (lone_in ps + n)) (lower_at σ (lone_in ps + n))
      here = ap (λ (z : List ℕ). entry z (entry ps n)) put ∙ get_or-set_same labels (entry ps n) l 0 (rising.below n h) ∙ is

      there : (k : ℕ) → k < n → entry after (entry ps k) ≡ entry labels (entry ps k)
      there k q =
          let r = rising.rises k n q h in
          ap (λ (z : List ℕ). entry z (entry ps k)) put ∙ get_or-set_other labels (entry ps n) (entry ps k) l 0 (λ e. omega (arith, r, e))

      by : (b : Bool) (k : ℕ) → ltb k n ≡ b → k < suc n → entry after (entry ps k) ≡ low_number (upper_at σ (lone_in ps + k)) (lower_at σ (lone_in ps + k))
      by true k e q = there k (ltb-true k n e) ∙ old.low k (ltb-true k n e)
      by false k e q =
          let z : n ≡ k = omega (arith, ltb-false k n e) in
          subst (λ (i : ℕ). entry after (entry ps i) ≡ low_number (upper_at σ (lone_in ps + i)) (lower_at σ (lone_in ps + i))) z here

-- nothing yet
pub traced_none : {ps σ labels : List ℕ} → LowTraced ps σ labels 0
traced_none = record { low = λ k l. absurd (omega arith) }

-- ---- the lowest bits of an entry, by its place in its pair

pub even_low : (σ : List ℕ) (t j : ℕ) → t % 2 ≡ 0 → t / 2 ≡ j → (upper_at σ t ≡ (low_at σ j).v1) × (lower_at σ t ≡ (low_at σ j).v0)
even_low σ t j e f = (rw (e, f) refl, rw (e, f) refl)

pub odd_low : (σ : List ℕ) (t j : ℕ) → t % 2 ≡ 1 → t / 2 ≡ j → (upper_at σ t ≡ (low_at σ j).w1) × (lower_at σ t ≡ (low_at σ j).w0)
odd_low σ t j e f = (rw (e, f) refl, rw (e, f) refl)

-- ---- pair by pair

pub zero_before : {σ : List ℕ} {n : ℕ} → n ≡ 0 → StateBefore σ 0 n
unfolding state_of state_at odd
zero_before e = rw e (record { is = refl })

pub lows_small : {σ : List ℕ} {j : ℕ} {s : TrellisState} {r : PairCode StateNumber} → Followed σ j s r → (r.v < 4) × (r.w < 4)
lows_small {σ} {j} {s} {r} f =
    let l : LowBits = low_by s (survivor σ j s) in
    (omega (arith, f.v_is, weight_le l.v0, weight_le l.v1), omega (arith, f.w_is, weight_le l.w0, weight_le l.w1))

module _ {σ : List ℕ} {j s : ℕ} {r : PairCode StateNumber} (b : StateBefore σ j s) (f : Followed σ j (state_of s) r) where
  pub next_before : StateBefore σ (suc j) r.next.number
  unfolding state_at
  next_before = record { is = f.next_is ∙ ap (λ (z : TrellisState). after z (survivor σ j z)) b.is }

  v_low : r.v ≡ low_number (low_at σ j).v1 (low_at σ j).v0
  v_low = f.v_is ∙ ap (λ (z : TrellisState). let l = low_by z (survivor σ j z) in low_number l.v1 l.v0) b.is

  pub w_low : r.w ≡ low_number (low_at σ j).w1 (low_at σ j).w0
  w_low = f.w_is ∙ ap (λ (z : TrellisState). let l = low_by z (survivor σ j z) in low_number l.w1 l.w0) b.is

-- the entries before k, and the number of the state before the pair that begins there
pub record Tracing (ps : List ℕ) (n : ℕ) (σ labels : List ℕ) (s k : ℕ) : Type 0 where
  pub parity : k % 2 ≡ lone_in ps
  pub inside : k ≤ length ps
  pub state : StateBefore σ ((k + lone_in ps) / 2) s
  pub traced : LowTraced ps σ labels k
  pub labels_length : length labels ≡ n

module _ {ps σ : List ℕ} (labels : List ℕ) (rising : Rising ps (length labels)) (many : 1 ≤ length ps) where
  -- a first pair with x = 0
  pub traced_first : {p l : ℕ} {after : List ℕ} → lone_in ps ≡ 1 → after ≡ set labels p l → p ≡ entry ps 0 → l ≡ low_number (low_at σ 0).w1 (low_at σ 0).w0 → LowTraced ps σ after (lone_in ps)
  traced_first {p} {l} {after} e put at n =
      let o = odd_low σ (lone_in ps + 0) 0 (omega (arith, e)) (omega (arith, e)) in
      let f : l ≡ low_number (upper_at σ (lone_in ps + 0)) (lower_at σ (lone_in ps + 0)) = n ∙ (λ i. low_number (sym o.0 i) (sym o.1 i)) in
      subst (LowTraced ps σ after) (sym e) (traced_more {labels = labels} rising many traced_none (put ∙ ap (λ (z : ℕ). set labels z l) at) f)

  pub tracing_start : {s : ℕ} → StateBefore σ (lone_in ps) s → LowTraced ps σ labels (lone_in ps) → Tracing ps (length labels) σ labels s (lone_in ps)
  tracing_start {s} b t =
      let h : (lone_in ps + lone_in ps) / 2 ≡ lone_in ps = omega arith in
      record { parity = omega arith; inside = omega arith; state = subst (λ (j : ℕ). StateBefore σ j s) (sym h) b; traced = t; labels_length = refl }

module _ {ps σ labels : List ℕ} {n s k : ℕ} (rising : Rising ps n) (t : Tracing ps n σ labels s k) (h : k < length ps) where
  -- both of its entries are there
  pub second_inside : k + 1 < length ps
  second_inside = omega (arith, t.parity)

  pub tracing_more : {r : PairCode StateNumber} {mid after : List ℕ} {p q : ℕ} → Followed σ ((k + lone_in ps) / 2) (state_of s) r
      → mid ≡ set labels p r.v → p ≡ entry ps k → after ≡ set mid q r.w → q ≡ entry ps (k + 1) → Tracing ps n σ after r.next.number (k + 2)
  tracing_more {r} {mid} {after} {p} {q} d pm pp qm qq =
      let j : ℕ = (k + lone_in ps) / 2 in
      let a = even_low σ (lone_in ps + k) j (omega (arith, t.parity)) (omega arith) in
      let b = odd_low σ (lone_in ps + (k + 1)) j (omega (arith, t.parity)) (omega (arith, t.parity)) in
      let ev : r.v ≡ low_number (upper_at σ (lone_in ps + k)) (lower_at σ (lone_in ps + k)) = v_low t.state d ∙ (λ i. low_number (sym a.0 i) (sym a.1 i)) in
      let ew : r.w ≡ low_number (upper_at σ (lone_in ps + (k + 1))) (lower_at σ (lone_in ps + (k + 1))) = w_low t.state d ∙ (λ i. low_number (sym b.0 i) (sym b.1 i)) in
      let r1 : Rising ps (length labels) = subst (Rising ps) (sym t.labels_length) rising in
      let nm : length mid ≡ n = ap length pm ∙ length-set labels p r.v ∙ t.labels_length in
      let r2 : Rising ps (length mid) = subst (Rising ps) (sym nm) rising in
      let t1 = traced_more r1 h t.traced (pm ∙ ap (λ (z : ℕ). set labels z r.v) pp) ev in
      let t1' = subst (LowTraced ps σ mid) (sym (add-one k)) t1 in
      let t2 = traced_more r2 second_inside t1' (qm ∙ ap (λ (z : ℕ). set mid z r.w) qq) ew in
      let e : suc (k + 1) ≡ k + 2 = omega arith in
      let f : suc j ≡ (k + 2 + lone_in ps) / 2 = omega arith in
      record {
        parity = omega (arith, t.parity);
        inside = omega (arith, second_inside);
        state = subst (λ (i : ℕ). StateBefore σ i r.next.number) f (next_before t.state d);
        traced = subst (LowTraced ps σ after) e t2;
        labels_length = ap length qm ∙ length-set mid q r.w ∙ nm;
      }
