-- What the figures of a list of entries say of the entries: all were read as sent, some were read wrong, and which was the first refused
-- one.
use Prim.Native.Nat.{ℕ, zero, suc, ◌+◌, ◌≤◌, ◌<◌}
use mathlib.Core.Bool.{true}
use mathlib.Core.List.{List, [], ◌∷◌, map}
use mathlib.Core.Logic.{◌↔◌, ◌≢◌}
use mathlib.Core.Path.{◌≡◌, refl, ap, ◌∙◌}
use native.Mathlib.Omega.{arith}
use borrow.Author.Tests.{lt-ltb}
use lib.Dec.{ltb}
use lib.ListN.{length, take}
use Rattle.g9932.specs.Bits.{weight}
use Rattle.g9932.specs.Order.{sum, count}
use Rattle.tally.specs.PairReport.{Entry, read_as, refused_with, wrong_bits, wrong_in, is_wrong, is_refused, most_symbols, first_refused}
use Rattle.tally.specs.Words.{ReadAsSent, Every, entry_at}
use Rattle.tally.proofs.Figures.{Sound, lengths}
use Rattle.tally.proofs.WrongBits.{none_wrong, same_right}

-- ---- read as sent

pub all_as_sent : (es : List Entry) → Every Sound es → sum (map wrong_in es) ≡ 0 → count is_refused es ≡ 0 → Every ReadAsSent es
unfolding weight
all_as_sent [] h w r = tt
all_as_sent (read_as s b ∷ es) h w r =
    (none_wrong s b (lengths s b h.0.passes).0 (omega arith), all_as_sent es h.1 (omega arith) (omega arith))
all_as_sent (refused_with s n ∷ es) h w r = absurd (omega arith)

pub none_counted : (es : List Entry) → Every ReadAsSent es → (sum (map wrong_in es) ≡ 0) × (count is_refused es ≡ 0)
unfolding weight
none_counted [] h = (refl, refl)
none_counted (read_as s b ∷ es) h =
    let z : wrong_bits s b ≡ 0 = ap (wrong_bits s) h.0 ∙ same_right s in
    let rest = none_counted es h.1 in
    (omega arith, omega arith)
none_counted (refused_with s n ∷ es) h = absurd h.0

-- ---- frames read wrong, and wrong bits

none_above : (n : ℕ) → weight (ltb 0 n) ≡ 0 → n ≡ 0
unfolding weight
none_above zero e = refl
none_above (suc n) e = absurd (omega (arith, rw (lt-ltb 0 (suc n) (omega arith)) at e))

pub wrong_none : (es : List Entry) → (count is_wrong es ≡ 0) ↔ (sum (map wrong_in es) ≡ 0)
unfolding weight
wrong_none [] = (λ _. refl, λ _. refl)
wrong_none (e ∷ es) = (
  λ h. let one = none_above (wrong_in e) (omega arith) in let rest = (wrong_none es).0 (omega arith) in omega arith,
  λ h. let z : wrong_in e ≡ 0 = omega arith in let rest = (wrong_none es).1 (omega arith) in rw z (omega (arith, rest)),
)

-- ---- the first refused symbol

pub first_most : (k : ℕ) (es : List Entry) → k + length es ≤ most_symbols → first_refused k es ≤ most_symbols
first_most k [] h = omega arith
first_most k (read_as s b ∷ es) h = first_most (suc k) es (omega arith)
first_most k (refused_with s n ∷ es) h = omega arith

pub none_first : (k : ℕ) (es : List Entry) → k + length es ≤ most_symbols → (first_refused k es ≡ most_symbols) ↔ (count is_refused es ≡ 0)
unfolding weight
none_first k [] h = (λ _. refl, λ _. refl)
none_first k (read_as s b ∷ es) h = let ih = none_first (suc k) es (omega arith) in (λ x. omega (arith, ih.0 x), λ x. ih.1 (omega arith))
none_first k (refused_with s n ∷ es) h = (λ x. absurd (omega arith), λ x. absurd (omega arith))

-- where the first of the entries is number k, entry n of them
record First (k : ℕ) (es : List Entry) : Type 0 where
  n : ℕ
  number : first_refused k es ≡ k + n
  inside : n < length es
  is : is_refused (entry_at es n) ≡ true
  before : count is_refused (take n es) ≡ 0

some_first : (k : ℕ) (es : List Entry) → count is_refused es ≢ 0 → First k es
unfolding weight
some_first k [] some = absurd (some refl)
some_first k (read_as s b ∷ es) some =
    let f = some_first (suc k) es (λ x. some (omega arith)) in
    record { n = suc f.n; number = omega (arith, f.number); inside = omega (arith, f.inside); is = f.is; before = omega (arith, f.before) }
some_first k (refused_with s n ∷ es) some = record { n = 0; number = omega arith; inside = omega arith; is = refl; before = refl }

pub first_refused_lem : (es : List Entry) → count is_refused es ≢ 0
    → (first_refused 0 es < length es) × (is_refused (entry_at es (first_refused 0 es)) ≡ true)
    × (count is_refused (take (first_refused 0 es) es) ≡ 0)
first_refused_lem es some =
    let f = some_first 0 es some in
    let e : first_refused 0 es ≡ f.n = omega (arith, f.number) in
    rw e (f.inside, f.is, f.before)
