-- What is promised of the pair report (request R-12), over its definitions. That the code gives what they say is the `ensures` of each
-- operation. Each proof cites the part that shows it. The words are those of specs/PairReport.antt, Calls.antt and Words.antt.
use Rattle.std.specs.Prelude.{None}
use Prim.Native.Nat.{ℕ, ◌+◌, ◌*◌, ◌%◌, ◌^◌, ◌≤◌, ◌<◌}
use mathlib.Core.Bool.{true, false}
use mathlib.Core.List.{List, [], ◌∷◌, ◌++◌}
use mathlib.Core.Logic.{◌↔◌, ◌≢◌, ◌⊎◌}
use mathlib.Core.Path.{◌≡◌, refl}
use lib.IntN.{ℤ}
use lib.ListN.{length, take}
use Rattle.g9932.specs.Order.{count}
use Rattle.g9932.specs.Sizes.{Tables}
use Rattle.g9932.specs.Symbol.{first_monitored}
use Rattle.g9932.specs.declared.Mode.TheVariants.{Coded}
use Rattle.guarantees.specs.Words.{AcceptedFrame, Ready, non_zero}
use Rattle.tally.specs.PairReport.{Entry, read_as, is_wrong, is_refused, figures_of, entry_test, with_entry, tallied, new_tally}
use Rattle.tally.specs.Calls.{Call, reset, ByteCalls, figures_after, accepted_in}
use Rattle.tally.specs.Words.{ReadAsSent, Every, entry_at, turned_read}
use Rattle.tally.specs.declared.Tally.{Tally}
use Rattle.tally.proofs.Answers as Answers
use Rattle.tally.proofs.CallLaws as CallLaws
use Rattle.tally.proofs.TurnedWrong as TurnedWrong
use Rattle.tally.proofs.WrongBits as WrongBits

-- ---- any calls

-- A new tally, which is as reset, has the figures of no entries.
pub new_as_reset : figures_of [] ≡ new_tally
new_as_reset = refl

-- Nothing before a reset counts: neither in the figures, nor among the accepted entries.
pub since_reset : (cs ds : List Call)
    → (figures_after (cs ++ (reset ∷ ds)) ≡ figures_after ds) × (accepted_in (cs ++ (reset ∷ ds)) ≡ accepted_in ds)
since_reset = CallLaws.since_reset

-- After any calls from a new tally on, with frames of bytes, resets among them, and whatever they were answered:
module _ (cs : List Call) (bytes : ByteCalls cs) where
  -- The figures are those worked out from the entries that were accepted since the last reset.
  pub figures : figures_after cs ≡ figures_of (accepted_in cs)
  figures = CallLaws.figures cs bytes

  -- The next entry is accepted exactly when fewer than 65,535 are, and 11 does not apply to it;
  pub accepted_exactly : (e : Entry)
      → ((tallied (figures_after cs) e).number ≡ 0) ↔ ((length (accepted_in cs) < 65_535) × (entry_test e ≡ false))
  accepted_exactly = CallLaws.accepted_exactly cs bytes

  -- and 22 is answered exactly when 65,535 are.
  pub full : (e : Entry) → ((tallied (figures_after cs) e).number ≡ 22) ↔ (length (accepted_in cs) ≡ 65_535)
  full = CallLaws.full_exactly cs bytes

  -- Wrong bits and refused symbols are both 0 exactly when every accepted entry was read as it was sent.
  pub as_sent : (((figures_after cs).wrong_bits ≡ 0) × ((figures_after cs).refused ≡ 0)) ↔ Every ReadAsSent (accepted_in cs)
  as_sent = CallLaws.as_sent cs bytes

  -- There are wrong frames exactly when there are wrong bits.
  pub wrong_none : ((figures_after cs).wrong_frames ≡ 0) ↔ ((figures_after cs).wrong_bits ≡ 0)
  wrong_none = CallLaws.wrong_none cs bytes

  -- The figures fit 32 bits: there are at most 65,535 symbols, none is both refused and read wrong, and each has at most 61,448 wrong bits.
  pub fits :
      ((figures_after cs).symbols ≤ 65_535) × ((figures_after cs).refused + (figures_after cs).wrong_frames ≤ (figures_after cs).symbols)
      × ((figures_after cs).wrong_bits ≤ (figures_after cs).symbols * 61_448) × ((figures_after cs).wrong_bits < 2 ^ 32)
      × ((figures_after cs).first_refused ≤ 65_535)
  fits = CallLaws.fits cs bytes

  -- First refused is 65,535 exactly when no symbol was refused;
  pub none_refused : ((figures_after cs).first_refused ≡ 65_535) ↔ ((figures_after cs).refused ≡ 0)
  none_refused = CallLaws.none_refused cs bytes

  -- else it is the number of a symbol that was refused, and none before it was.
  pub first_refused_lem : (figures_after cs).refused ≢ 0
      → ((figures_after cs).first_refused < (figures_after cs).symbols)
      × (is_refused (entry_at (accepted_in cs) (figures_after cs).first_refused) ≡ true)
      × (count is_refused (take (figures_after cs).first_refused (accepted_in cs)) ≡ 0)
  first_refused_lem = CallLaws.first_refused_lem cs bytes

-- ---- one symbol

-- A frame is read wrong exactly when it is another than was sent.
pub wrong_frame : (s r : List ℕ) → length s ≡ length r → (is_wrong (read_as s r) ≡ true) ↔ (r ≢ s)
wrong_frame = WrongBits.wrong_frame

-- Coded, where no tone is monitored and N is even, a written symbol that is turned by half a turn is read, and read wrong: the wrong bits
-- show what no refusal does.
pub turned_wrong : (T : Tables) (r start : ℕ) (xs ys : List ℤ) (f₀ : List ℕ) → Ready T r start xs ys f₀ → T.mode ≡ Coded
    → first_monitored T ≡ None → non_zero T % 2 ≡ 0 → (f : List ℕ) → AcceptedFrame T start f
    → ((turned_read T r start xs ys f₀ f).report.verdict.number ≡ 0) × (is_wrong (read_as f (turned_read T r start xs ys f₀ f).frame) ≡ true)
turned_wrong = TurnedWrong.turned_wrong

-- ---- one call

-- With any tally whatever, also one that no calls made:
module _ (t : Tally) (e : Entry) where
  -- Full comes first, whatever the entry, and leaves the tally as it came.
  pub full_first : 65_535 ≤ t.symbols → tallied t e ≡ record { number = 22; place = 0; tally = t }
  full_first = Answers.full_first t e

  -- Then comes 11, and leaves the tally as it came too.
  pub frame_next : t.symbols < 65_535 → entry_test e ≡ true → tallied t e ≡ record { number = 11; place = 0; tally = t }
  frame_next = Answers.frame_next t e

  -- An entry is accepted where the tally is not full and 11 does not apply, and raises the figures.
  pub counted : t.symbols < 65_535 → entry_test e ≡ false → tallied t e ≡ record { number = 0; place = 0; tally = with_entry t e }
  counted = Answers.counted t e

  -- An entry that is not answered with 0 changes no figure.
  pub refused_entry : (tallied t e).number ≢ 0 → (tallied t e).tally ≡ t
  refused_entry = Answers.refused_entry t e

  -- No other number than 0, 11 and 22 is answered:
  pub three_numbers : ((tallied t e).number ≡ 0) ⊎ ((tallied t e).number ≡ 11) ⊎ ((tallied t e).number ≡ 22)
  three_numbers = Answers.three_numbers t e

  -- 22 exactly when the tally is full,
  pub full_exactly : ((tallied t e).number ≡ 22) ↔ (65_535 ≤ t.symbols)
  full_exactly = Answers.full_exactly t e

  -- 11 exactly when it is not, and the lengths or the refusal's number are wrong.
  pub frame_exactly : ((tallied t e).number ≡ 11) ↔ ((t.symbols < 65_535) × (entry_test e ≡ true))
  frame_exactly = Answers.frame_exactly t e

  -- First refused stays as it is, unless that is 65,535.
  pub first_stays : t.first_refused ≢ 65_535 → (tallied t e).tally.first_refused ≡ t.first_refused
  first_stays = Answers.first_stays t e

  -- The four counts never go down, where they have 32 bits, as those of a tally do by their type.
  pub never_less : t.refused < 2 ^ 32 → t.wrong_frames < 2 ^ 32 → t.wrong_bits < 2 ^ 32
      → (t.symbols ≤ (tallied t e).tally.symbols) × (t.refused ≤ (tallied t e).tally.refused)
      × (t.wrong_frames ≤ (tallied t e).tally.wrong_frames) × (t.wrong_bits ≤ (tallied t e).tally.wrong_bits)
  never_less = Answers.never_less t e
