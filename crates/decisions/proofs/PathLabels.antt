-- Nearest labels of the entries, with the lowest bits that the survivors give, are nearest labels along the survivors' path.
use Prim.Native.Nat.{ℕ, zero, suc, ◌+◌, ◌*◌, ◌/◌, ◌%◌, ◌≤◌, ◌<◌}
use mathlib.Core.Bool.{Bool, true, false}
use mathlib.Core.List.{List, [], ◌∷◌, ◌++◌, append_assoc}
use mathlib.Core.Path.{◌≡◌, refl, sym, ap, subst, ◌∙◌}
use native.Mathlib.Omega.{arith}
use borrow.Author.Tests.{ltb-false, eq-eqb, ne_eqb}
use lib.Dec.{ltb}
use lib.IntN.{ℤ}
use lib.ListN.{length, take, drop, get_or, length-append}
use lib.Seq.{take_at, drop_at}
use Rattle.cosets.specs.Meters.{Meter, CosetLabel}
use Rattle.frame.proofs.Labels.{length_at, at_get}
use Rattle.frame.specs.Labels.{bits_of_labels, Within, labels_at}
use Rattle.g9932.proofs.Words.{length_bits}
use Rattle.g9932.specs.Bits.{bits}
use Rattle.g9932.specs.Order.{is_one}
use Rattle.g9932.specs.Sizes.{entry, Point}
use Rattle.g9932.specs.Trellis.{zero_state}
use Rattle.g9932.specs.declared.LowBits.{LowBits}
use Rattle.paths.specs.Frames.{PairMeter, PairLabels, Labelled}
use Rattle.paths.specs.Survivors.{follow, state_at, low_at}
use Rattle.decisions.specs.Entries.{meter_by, meters_in, meter_at, Decidable}
use Rattle.decisions.specs.Deciding.{meters_in_twos, no_meter, pair_meters, lone_in, upper_at, lower_at, CosetNumber, Traced}
use Rattle.decisions.proofs.Tracing.{even_low, odd_low}

-- what is known of entry i: its bits, at least 2, and a nearest label with the lowest bits of entry t, counting the zero in front
pub record EntryLabel (σ : List ℕ) (t : ℕ) (m : Meter) (e l : ℕ) : Type 0 where
  pub bits_are : m.bits ≡ e
  pub two : 2 ≤ e
  pub nearest : CosetNumber m (upper_at σ t) (lower_at σ t) l

-- its label as a word
word : {σ : List ℕ} {t e l : ℕ} {m : Meter} → EntryLabel σ t m e l → CosetLabel m (upper_at σ t) (lower_at σ t) (bits e l)
word {σ = σ} {t = t} {l = l} {m = m} h = subst (λ (n : ℕ). CosetLabel m (upper_at σ t) (lower_at σ t) (bits n l)) h.bits_are h.nearest.nearest

pair_labels : (x : ℕ) (m : PairMeter) (l : LowBits) (d : List Bool) → 1 ≤ x → CosetLabel m.v l.v1 l.v0 (take x d) → CosetLabel m.w l.w1 l.w0 (drop x d) → PairLabels x m l d
pair_labels zero m l d h a b = absurd (omega arith)
pair_labels (suc x) m l d h a b = (a, b)

-- ---- pairs with x at least 2

pub labelled_from : (σ : List ℕ) (j : ℕ) (ms : List Meter) (es ls : List ℕ) → length es ≡ length ms → length ls ≡ length ms → length ms % 2 ≡ 0
    → ((i : ℕ) → i < length ms → EntryLabel σ (2 * j + i) (get_or ms i no_meter) (entry es i) (entry ls i))
    → Labelled (state_at σ j) (meters_in_twos ms) (follow σ (length ms / 2) j (state_at σ j)) (bits_of_labels es ls)
unfolding follow state_at
labelled_from σ j [] [] ls ne nl even h = refl
labelled_from σ j [] (e ∷ es) ls ne nl even h = absurd (omega arith)
labelled_from σ j (a ∷ []) es ls ne nl even h = absurd (omega arith)
labelled_from σ j (a ∷ b ∷ ms) [] ls ne nl even h = absurd (omega arith)
labelled_from σ j (a ∷ b ∷ ms) (e ∷ []) ls ne nl even h = absurd (omega arith)
labelled_from σ j (a ∷ b ∷ ms) (e ∷ f ∷ es) [] ne nl even h = absurd (omega arith)
labelled_from σ j (a ∷ b ∷ ms) (e ∷ f ∷ es) (k ∷ []) ne nl even h = absurd (omega arith)
labelled_from σ j (a ∷ b ∷ ms) (e ∷ f ∷ es) (k ∷ l ∷ ls) ne nl even h =
    let n : suc (suc (length ms)) / 2 ≡ suc (length ms / 2) = omega arith in
    let ha = h 0 (omega arith) in
    let hb = h 1 (omega arith) in
    let v = bits e k in
    let w = bits f l in
    let rest = bits_of_labels es ls in
    let whole : v ++ (w ++ rest) ≡ (v ++ w) ++ rest = sym (append_assoc v w rest) in
    let size : length (v ++ w) ≡ a.bits + b.bits = length-append v w ∙ (λ i. length_bits e k i + length_bits f l i) ∙ (λ i. sym ha.bits_are i + sym hb.bits_are i) in
    let front : take (a.bits + b.bits) (v ++ (w ++ rest)) ≡ v ++ w = ap (take (a.bits + b.bits)) whole ∙ take_at (v ++ w) rest (a.bits + b.bits) size in
    let back : drop (a.bits + b.bits) (v ++ (w ++ rest)) ≡ rest = ap (drop (a.bits + b.bits)) whole ∙ drop_at (v ++ w) rest (a.bits + b.bits) size in
    let sv : length v ≡ a.bits = length_bits e k ∙ sym ha.bits_are in
    let o = even_low σ (2 * j + 0) j (omega arith) (omega arith) in
    let p = odd_low σ (2 * j + 1) j (omega arith) (omega arith) in
    let lv : CosetLabel a (low_at σ j).v1 (low_at σ j).v0 (take a.bits (v ++ w)) = rw (take_at v w a.bits sv, ← o.0, ← o.1) (word ha) in
    let lw : CosetLabel b (low_at σ j).w1 (low_at σ j).w0 (drop a.bits (v ++ w)) = rw (drop_at v w a.bits sv, ← p.0, ← p.1) (word hb) in
    let r = labelled_from σ (suc j) ms es ls (omega arith) (omega arith) (omega arith) (λ i q. shift i (h (suc (suc i)) (omega arith))) in
    rw (n, front, back) (pair_labels a.bits (record { v = a; w = b }) (low_at σ j) (v ++ w) (omega (arith, ha.bits_are, ha.two)) lv lw, r)
  where
    shift : (i : ℕ) → EntryLabel σ (2 * j + suc (suc i)) (get_or ms i no_meter) (entry es i) (entry ls i) → EntryLabel σ (2 * suc j + i) (get_or ms i no_meter) (entry es i) (entry ls i)
    shift i x = let t : 2 * j + suc (suc i) ≡ 2 * suc j + i = omega arith in subst (λ (t : ℕ). EntryLabel σ t (get_or ms i no_meter) (entry es i) (entry ls i)) t x

-- ---- all pairs, the first with x = 0 or not

first_alone : (σ : List ℕ) (ms : List Meter) (es ls : List ℕ) → length es ≡ length ms → length ls ≡ length ms → length ms % 2 ≡ 1
    → ((i : ℕ) → i < length ms → EntryLabel σ (1 + i) (get_or ms i no_meter) (entry es i) (entry ls i))
    → Labelled zero_state (meters_in_twos (no_meter ∷ ms)) (follow σ ((length ms + 1) / 2) 0 zero_state) (bits_of_labels es ls)
unfolding follow state_at
first_alone σ [] es ls ne nl odd h = absurd (omega arith)
first_alone σ (m ∷ ms) [] ls ne nl odd h = absurd (omega arith)
first_alone σ (m ∷ ms) (e ∷ es) [] ne nl odd h = absurd (omega arith)
first_alone σ (m ∷ ms) (e ∷ es) (k ∷ ls) ne nl odd h =
    let n : (suc (length ms) + 1) / 2 ≡ suc (length ms / 2) = omega arith in
    let hm = h 0 (omega arith) in
    let w = bits e k in
    let rest = bits_of_labels es ls in
    let size : length w ≡ 0 + m.bits = length_bits e k ∙ sym hm.bits_are ∙ omega arith in
    let p = odd_low σ (1 + 0) 0 (omega arith) (omega arith) in
    let lw : CosetLabel m (low_at σ 0).w1 (low_at σ 0).w0 w = rw (← p.0, ← p.1) (word hm) in
    let r = labelled_from σ 1 ms es ls (omega arith) (omega arith) (omega arith) (λ i q. shift i (h (suc i) (omega arith))) in
    rw (n, take_at w rest (0 + m.bits) size, drop_at w rest (0 + m.bits) size) (lw, r)
  where
    shift : (i : ℕ) → EntryLabel σ (1 + suc i) (get_or ms i no_meter) (entry es i) (entry ls i) → EntryLabel σ (2 * 1 + i) (get_or ms i no_meter) (entry es i) (entry ls i)
    shift i x = let t : 1 + suc i ≡ 2 * 1 + i = omega arith in subst (λ (t : ℕ). EntryLabel σ t (get_or ms i no_meter) (entry es i) (entry ls i)) t x

all_labelled : (σ : List ℕ) (ms : List Meter) (es ls : List ℕ) → length es ≡ length ms → length ls ≡ length ms
    → ((i : ℕ) → i < length ms → EntryLabel σ (length ms % 2 + i) (get_or ms i no_meter) (entry es i) (entry ls i))
    → Labelled zero_state (pair_meters ms) (follow σ ((length ms + 1) / 2) 0 zero_state) (bits_of_labels es ls)
unfolding state_at
all_labelled σ ms es ls ne nl h = go (length ms % 2) refl (omega arith)
  where
    go : (o : ℕ) → length ms % 2 ≡ o → o ≤ 1 → Labelled zero_state (pair_meters ms) (follow σ ((length ms + 1) / 2) 0 zero_state) (bits_of_labels es ls)
    go zero e l =
        let n : (length ms + 1) / 2 ≡ length ms / 2 = omega arith in
        let b : is_one (length ms % 2) ≡ false = ne_eqb (length ms % 2) 1 (λ z. omega (arith, e, z)) in
        rw (b, n) (labelled_from σ 0 ms es ls ne nl e (λ i q. subst (λ (t : ℕ). EntryLabel σ t (get_or ms i no_meter) (entry es i) (entry ls i)) (ap (λ (z : ℕ). z + i) e ∙ omega arith) (h i q)))
    go (suc zero) e l =
        let b : is_one (length ms % 2) ≡ true = eq-eqb (length ms % 2) 1 e in
        rw b (first_alone σ ms es ls ne nl e (λ i q. subst (λ (t : ℕ). EntryLabel σ t (get_or ms i no_meter) (entry es i) (entry ls i)) (ap (λ (z : ℕ). z + i) e) (h i q)))
    go (suc (suc o)) e l = absurd (omega arith)

-- ---- of traced labels

pub meters_length : (from : ℕ) (q : List Point) (es ps : List ℕ) → length ps ≡ length es → length (meters_in from q es ps) ≡ length es
meters_length from q [] ps h = refl
meters_length from q (e ∷ es) [] h = absurd (omega arith)
meters_length from q (e ∷ es) (p ∷ ps) h = ap suc (meters_length from q es ps (omega arith))

pub meters_get : (from : ℕ) (q : List Point) (es ps : List ℕ) (k : ℕ) → length ps ≡ length es → k < length es → get_or (meters_in from q es ps) k no_meter ≡ meter_at from q es ps k
meters_get from q [] ps k h l = absurd (omega arith)
meters_get from q (e ∷ es) [] k h l = absurd (omega arith)
meters_get from q (e ∷ es) (p ∷ ps) zero h l = refl
meters_get from q (e ∷ es) (p ∷ ps) (suc k) h l = meters_get from q es ps k (omega arith) (omega arith)

module _ {from : ℕ} {es ps : List ℕ} {xs ys : List ℤ} {q : List Point} {σ labels : List ℕ} (d : Decidable 2 from es ps xs ys) (t : Traced from es ps q σ labels (length es)) where
  -- an entry that is shared has 2 bits
  meter_bits : (k : ℕ) → k < length es → (meter_at from q es ps k).bits ≡ entry es k
  meter_bits k h = go (ltb (entry ps k) from) refl
    where
      go : (b : Bool) → ltb (entry ps k) from ≡ b → (meter_by b (entry es k) (entry ps k) q).bits ≡ entry es k
      go true e = refl
      go false e = sym (d.shared_two k h (ltb-false (entry ps k) from e))

  abbrev ls : List ℕ
  ls = labels_at ps labels

  entry_label : (k : ℕ) → k < length es → EntryLabel σ (lone_in ps + k) (meter_at from q es ps k) (entry es k) (entry ls k)
  entry_label k h =
      record { bits_are = meter_bits k h; two = d.bits_least k h; nearest = rw (at_get ps labels k (omega (arith, d.places_length))) (t.decided k h) }

  pub traced_within : Within es ls (length es)
  traced_within k h = rw (← (meter_bits k h)) (entry_label k h).nearest.small

  pub traced_labelled : Labelled zero_state (pair_meters (meters_in from q es ps)) (follow σ ((length es + 1) / 2) 0 zero_state) (bits_of_labels es ls)
  traced_labelled =
      let n = meters_length from q es ps d.places_length in
      let a = all_labelled σ (meters_in from q es ps) es ls (sym n) (length_at ps labels ∙ d.places_length ∙ sym n)
      (λ i h. let l : i < length es = omega (arith, n) in rw (n, ← d.places_length, meters_get from q es ps i d.places_length l) (entry_label i l)) in
      subst (λ (z : ℕ). Labelled zero_state (pair_meters (meters_in from q es ps)) (follow σ ((z + 1) / 2) 0 zero_state) (bits_of_labels es ls)) n a
