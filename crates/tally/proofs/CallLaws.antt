-- Laws of any calls from a new tally on: what they leave is the figures of the accepted entries, which are at most 65,535, and each sound.
use Prim.Native.Nat.{◌+◌, ◌*◌, ◌^◌, ◌≤◌, ◌<◌}
use mathlib.Core.Bool.{true, false}
use mathlib.Core.List.{List, [], ◌∷◌, ◌++◌}
use mathlib.Core.Logic.{◌↔◌, ◌≢◌}
use mathlib.Core.Path.{◌≡◌, refl, sym, ap, ◌∙◌}
use native.Mathlib.Omega.{arith}
use lib.ListN.{length, take, length-append}
use Rattle.g9932.specs.Order.{count}
use Rattle.tally.specs.PairReport.{Entry, is_refused, most_symbols, figures_of, entry_test, with_entry, tallied, new_tally}
use Rattle.tally.specs.Calls.{Call, give, reset, tally_after, accepted_after, ByteCalls, figures_after, accepted_in}
use Rattle.tally.specs.Words.{ReadAsSent, Every, entry_at}
use Rattle.tally.specs.declared.Tally.{Tally}
use Rattle.tally.proofs.Answers as Answers
use Rattle.tally.proofs.Answers.{Answer, full, frame, taken, answer, taken_exactly}
use Rattle.tally.proofs.Figures.{Sound, most_wrong, counts_most, wrong_all, figures_more}
use Rattle.tally.proofs.Meaning as Meaning

-- ---- what every call keeps

record Made (t : Tally) (es : List Entry) : Type 0 where
  figures : t ≡ figures_of es
  few : length es ≤ most_symbols
  sound : Every Sound es

made_new : Made new_tally []
made_new = record { figures = refl; few = omega arith; sound = tt }

every_more : (es : List Entry) (e : Entry) → Every Sound es → Sound e → Every Sound (es ++ (e ∷ []))
every_more [] e hs h = (h, tt)
every_more (d ∷ es) e hs h = (hs.0, every_more es e hs.1 h)

made_more : {t : Tally} {es : List Entry} (e : Entry) → Made t es → t.symbols < most_symbols → Sound e
    → Made (with_entry t e) (es ++ (e ∷ []))
made_more {es = es} e m l h =
    let s = ap (λ (t : Tally). t.symbols) m.figures in
    record {
      figures = ap (λ (t : Tally). with_entry t e) m.figures ∙ sym (figures_more es e m.sound h (omega arith));
      few = omega (arith, length-append es (e ∷ []));
      sound = every_more es e m.sound h;
    }

made_after : (cs : List Call) (t : Tally) (es : List Entry) → ByteCalls cs → Made t es → Made (tally_after t cs) (accepted_after t es cs)
unfolding tally_after accepted_after
made_after [] t es b m = m
made_after (reset ∷ cs) t es b m = made_after cs new_tally [] b made_new
made_after (give e ∷ cs) t es b m = go (answer t e) (λ u ds. made_after cs u ds b.1)
  where
    go : Answer t e → ((u : Tally) (ds : List Entry) → Made u ds → Made (tally_after u cs) (accepted_after u ds cs))
        → Made (tally_after t (give e ∷ cs)) (accepted_after t es (give e ∷ cs))
    go (full h q) rest = rw q (rest t es m)
    go (frame h p q) rest = rw q (rest t es m)
    go (taken h p q) rest = rw q (rest (with_entry t e) (es ++ (e ∷ [])) (made_more e m h (record { bytes = b.0; passes = p })))

module _ (cs : List Call) (b : ByteCalls cs) where
  made : Made (figures_after cs) (accepted_in cs)
  made = made_after cs new_tally [] b made_new

  pub figures : figures_after cs ≡ figures_of (accepted_in cs)
  figures = made.figures

  pub accepted_exactly : (e : Entry)
      → ((tallied (figures_after cs) e).number ≡ 0) ↔ ((length (accepted_in cs) < most_symbols) × (entry_test e ≡ false))
  accepted_exactly e = rw figures (taken_exactly (figures_of (accepted_in cs)) e)

  pub full_exactly : (e : Entry) → ((tallied (figures_after cs) e).number ≡ 22) ↔ (length (accepted_in cs) ≡ most_symbols)
  full_exactly e =
      let few = made.few in
      let x = Answers.full_exactly (figures_of (accepted_in cs)) e in
      rw figures (λ h. omega (arith, x.0 h), λ h. x.1 (omega arith))

  pub as_sent : (((figures_after cs).wrong_bits ≡ 0) × ((figures_after cs).refused ≡ 0)) ↔ Every ReadAsSent (accepted_in cs)
  as_sent = rw figures (λ h. Meaning.all_as_sent (accepted_in cs) made.sound h.0 h.1, Meaning.none_counted (accepted_in cs))

  pub wrong_none : ((figures_after cs).wrong_frames ≡ 0) ↔ ((figures_after cs).wrong_bits ≡ 0)
  wrong_none = rw figures (Meaning.wrong_none (accepted_in cs))

  pub fits :
      ((figures_after cs).symbols ≤ most_symbols) × ((figures_after cs).refused + (figures_after cs).wrong_frames ≤ (figures_after cs).symbols)
      × ((figures_after cs).wrong_bits ≤ (figures_after cs).symbols * most_wrong) × ((figures_after cs).wrong_bits < 2 ^ 32)
      × ((figures_after cs).first_refused ≤ most_symbols)
  fits =
      let few = made.few in
      let all = wrong_all (accepted_in cs) made.sound in
      rw figures (few, counts_most (accepted_in cs), all, omega arith, Meaning.first_most 0 (accepted_in cs) (omega arith))

  pub none_refused : ((figures_after cs).first_refused ≡ most_symbols) ↔ ((figures_after cs).refused ≡ 0)
  none_refused = rw figures (Meaning.none_first 0 (accepted_in cs) (omega (arith, made.few)))

  pub first_refused_lem : (figures_after cs).refused ≢ 0
      → ((figures_after cs).first_refused < (figures_after cs).symbols)
      × (is_refused (entry_at (accepted_in cs) (figures_after cs).first_refused) ≡ true)
      × (count is_refused (take (figures_after cs).first_refused (accepted_in cs)) ≡ 0)
  first_refused_lem = rw figures (Meaning.first_refused_lem (accepted_in cs))

-- ---- nothing before a reset counts

tally_reset : (cs ds : List Call) (t : Tally) → tally_after t (cs ++ (reset ∷ ds)) ≡ figures_after ds
unfolding tally_after
tally_reset [] ds t = refl
tally_reset (give e ∷ cs) ds t = tally_reset cs ds _
tally_reset (reset ∷ cs) ds t = tally_reset cs ds new_tally

accepted_reset : (cs ds : List Call) (t : Tally) (es : List Entry) → accepted_after t es (cs ++ (reset ∷ ds)) ≡ accepted_in ds
unfolding accepted_after
accepted_reset [] ds t es = refl
accepted_reset (give e ∷ cs) ds t es = accepted_reset cs ds _ _
accepted_reset (reset ∷ cs) ds t es = accepted_reset cs ds new_tally []

pub since_reset : (cs ds : List Call)
    → (figures_after (cs ++ (reset ∷ ds)) ≡ figures_after ds) × (accepted_in (cs ++ (reset ∷ ds)) ≡ accepted_in ds)
since_reset cs ds = (tally_reset cs ds new_tally, accepted_reset cs ds new_tally [])
