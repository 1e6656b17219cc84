-- Laws of one call, for any tally whatever: its three answers, and what they leave in the tally.
use Prim.Native.Nat.{ℕ, ◌+◌, ◌^◌, ◌≤◌, ◌<◌}
use mathlib.Core.Bool.{Bool, true, false, cond, and-false}
use mathlib.Core.Logic.{◌↔◌, ◌≢◌, ◌⊎◌, inl, inr}
use mathlib.Core.Path.{◌≡◌, refl, ap}
use native.Mathlib.Omega.{arith}
use borrow.Author.Tests.{leb-true, leb-false, le-leb, lt-leb, ne_eqb}
use lib.Dec.{ltb}
use Rattle.g9932.specs.Refusals.{refuse_if}
use Rattle.tally.specs.PairReport.{Entry, is_refused, most_symbols, full_test, entry_test, tally_verdict, most_figure, raised, first_after, with_entry, Told, tallied}
use Rattle.tally.specs.declared.Tally.{Tally}

module _ (t : Tally) (e : Entry) where
  -- ---- the three answers

  pub full_first : most_symbols ≤ t.symbols → tallied t e ≡ record { number = 22; place = 0; tally = t }
  unfolding tallied tally_verdict refuse_if
  full_first h = rw (le-leb most_symbols t.symbols h)

  pub frame_next : t.symbols < most_symbols → entry_test e ≡ true → tallied t e ≡ record { number = 11; place = 0; tally = t }
  unfolding tallied tally_verdict refuse_if
  frame_next h p = rw (lt-leb most_symbols t.symbols h, p)

  pub counted : t.symbols < most_symbols → entry_test e ≡ false → tallied t e ≡ record { number = 0; place = 0; tally = with_entry t e }
  unfolding tallied tally_verdict refuse_if
  counted h p = rw (lt-leb most_symbols t.symbols h, p)

  -- which of them it is, and why
  pub data Answer : Type 0 where
    full : most_symbols ≤ t.symbols → tallied t e ≡ record { number = 22; place = 0; tally = t } → Answer
    frame : t.symbols < most_symbols → entry_test e ≡ true → tallied t e ≡ record { number = 11; place = 0; tally = t } → Answer
    taken : t.symbols < most_symbols → entry_test e ≡ false → tallied t e ≡ record { number = 0; place = 0; tally = with_entry t e } → Answer

  pub answer : Answer
  answer = go (full_test t) (entry_test e) refl refl
    where
      go : (f p : Bool) → full_test t ≡ f → entry_test e ≡ p → Answer
      go true p h q = let l = leb-true most_symbols t.symbols h in full l (full_first l)
      go false true h q = let l = leb-false most_symbols t.symbols h in frame l q (frame_next l q)
      go false false h q = let l = leb-false most_symbols t.symbols h in taken l q (counted l q)

  -- ---- the numbers

  abbrev number : ℕ
  number = (tallied t e).number

  number_is : {a : Told} → tallied t e ≡ a → number ≡ a.number
  number_is q = ap (λ (a : Told). a.number) q

  pub three_numbers : ((tallied t e).number ≡ 0) ⊎ ((tallied t e).number ≡ 11) ⊎ ((tallied t e).number ≡ 22)
  three_numbers = go answer
    where
      go : Answer → (number ≡ 0) ⊎ (number ≡ 11) ⊎ (number ≡ 22)
      go (full h q) = inr (inr (number_is q))
      go (frame h p q) = inr (inl (number_is q))
      go (taken h p q) = inl (number_is q)

  -- each number has one reason
  reasons : Answer
      → (number ≡ 22 → most_symbols ≤ t.symbols)
      × (number ≡ 11 → (t.symbols < most_symbols) × (entry_test e ≡ true))
      × (number ≡ 0 → (t.symbols < most_symbols) × (entry_test e ≡ false))
  reasons (full h q) = let n = number_is q in (λ _. h, λ m. absurd (omega arith), λ m. absurd (omega arith))
  reasons (frame h p q) = let n = number_is q in (λ m. absurd (omega arith), λ _. (h, p), λ m. absurd (omega arith))
  reasons (taken h p q) = let n = number_is q in (λ m. absurd (omega arith), λ m. absurd (omega arith), λ _. (h, p))

  pub full_exactly : ((tallied t e).number ≡ 22) ↔ (most_symbols ≤ t.symbols)
  full_exactly = ((reasons answer).0, λ h. number_is (full_first h))

  pub frame_exactly : ((tallied t e).number ≡ 11) ↔ ((t.symbols < most_symbols) × (entry_test e ≡ true))
  frame_exactly = ((reasons answer).1, λ h. number_is (frame_next h.0 h.1))

  pub taken_exactly : ((tallied t e).number ≡ 0) ↔ ((t.symbols < most_symbols) × (entry_test e ≡ false))
  taken_exactly = ((reasons answer).2, λ h. number_is (counted h.0 h.1))

  -- ---- the tally

  pub refused_entry : (tallied t e).number ≢ 0 → (tallied t e).tally ≡ t
  refused_entry = go answer
    where
      go : Answer → number ≢ 0 → (tallied t e).tally ≡ t
      go (full h q) n = rw q
      go (frame h p q) n = rw q
      go (taken h p q) n = absurd (n (number_is q))

  pub first_stays : t.first_refused ≢ most_symbols → (tallied t e).tally.first_refused ≡ t.first_refused
  first_stays some = go answer
    where
      stays : first_after t (is_refused e) ≡ t.first_refused
      stays = rw (ne_eqb t.first_refused most_symbols some, and-false)

      go : Answer → (tallied t e).tally.first_refused ≡ t.first_refused
      go (full h q) = rw q
      go (frame h p q) = rw q
      go (taken h p q) = rw q stays

raised_more : (figure by : ℕ) → figure ≤ most_figure → figure ≤ raised figure by
raised_more figure by h = go (ltb most_figure (figure + by))
  where
    go : (c : Bool) → figure ≤ cond c most_figure (figure + by)
    go true = h
    go false = omega arith

-- the counts of the second tally are those of the first, or larger
abbrev pub NotLess : Tally → Tally → Type 0
NotLess t u =
    (t.symbols ≤ u.symbols) × (t.refused ≤ u.refused)
    × (t.wrong_frames ≤ u.wrong_frames) × (t.wrong_bits ≤ u.wrong_bits)

pub never_less : (t : Tally) (e : Entry)
    → t.refused < 2 ^ 32 → t.wrong_frames < 2 ^ 32 → t.wrong_bits < 2 ^ 32 → NotLess t (tallied t e).tally
never_less t e a b c = go (answer t e)
  where
    go : Answer t e → NotLess t (tallied t e).tally
    go (full h q) = rw q (omega arith)
    go (frame h p q) = rw q (omega arith)
    go (taken h p q) = rw q (omega arith, raised_more _ _ (omega arith), raised_more _ _ (omega arith), raised_more _ _ (omega arith))
