-- What the clip check answers by what it is given, and what it tells by the first monitored tone.
use Rattle.std.specs.Prelude.{Option, None, Some}
use Prim.Native.Nat.{ℕ}
use mathlib.Core.Bool.{Bool, true, false, ◌||◌, not-eq-not}
use mathlib.Core.List.{List}
use mathlib.Core.Logic.{◌↔◌, ◌≢◌}
use mathlib.Core.Path.{◌≡◌, refl, sym, ap, ◌∙◌}
use native.Mathlib.Omega.{arith}
use borrow.Author.Tests.{eq-eqb, ne_eqb}
use lib.IntN.{ℤ}
use lib.ListN.{length, take, get_or}
use Rattle.g9932.specs.Clip.{clip_by, clip_against, filler_point, clip_at, clip_of, clip_inputs, clip_verdict, ClipReport, clip_report_by, clip_check, clip_number}
use Rattle.g9932.specs.Filler.{drawn, register_after}
use Rattle.g9932.specs.Points.{negated, same_point}
use Rattle.g9932.specs.Refusals.{Verdict, and_then, room_test, table_verdict}
use Rattle.g9932.specs.Sizes.{Tables, Point, origin, points}
use Rattle.g9932.specs.Symbol.{classes_of, first_monitored}
use Rattle.g9932.specs.declared.Clip.{Clip}
use Rattle.g9932.specs.declared.Clip.TheVariants.{Straight, Turned, Neither, CannotTell}
use Rattle.g9932.proofs.Constellations.{same_point_self, same_point→eq}
use Rattle.g9932.proofs.Verdicts.{test_here, test_past, and_past, clip_told}
use Rattle.guarantees.specs.Words.{AcceptedTables, ValidRegister, RightLength}
use Rattle.guarantees.proofs.HalfTurn.{half_point}
use Rattle.guarantees.proofs.Operations.{exact_lists, lists_fit}
use Rattle.guarantees.proofs.TurnedSymbol.{two_moves}

-- ---- whatever the inputs

-- no clip has number 0
abbrev number_in : Clip → ℕ
number_in c = clip_number (Some c)

number_not : (c : Clip) → number_in c ≢ 0
number_not Straight e = omega arith
number_not Turned e = omega arith
number_not Neither e = omega arith
number_not CannotTell e = omega arith

module _ (T : Tables) (xs ys : List ℤ) (r : ℕ) where
  abbrev answer : ClipReport
  answer = clip_check T xs ys r

  pub register_back : answer.register ≡ r
  unfolding clip_report_by
  register_back = refl

  pub told : answer.number ≡ 0 → answer.clip ≡ Some (clip_of T (points xs ys) r)
  unfolding clip_report_by
  told e = rw (eq-eqb answer.number 0 e)

  pub not_told : answer.number ≢ 0 → answer.clip ≡ None
  unfolding clip_report_by
  not_told h = rw (ne_eqb answer.number 0 h)

  pub zero_refused : (clip_number answer.clip ≡ 0) ↔ (answer.number ≢ 0)
  zero_refused = (λ z e. number_not (clip_of T (points xs ys) r) (sym (ap clip_number (told e)) ∙ z), λ h. ap clip_number (not_told h))

  pub nine : answer.number ≢ 9
  unfolding clip_report_by
  nine = (clip_told T (length xs) (length ys) r).not_nine

  pub tables_refused : (table_verdict T).number ≢ 0
      → answer ≡ record { number = (table_verdict T).number; place = (table_verdict T).place; clip = None; register = r }
  unfolding clip_report_by clip_verdict and_then
  tables_refused h = rw (ne_eqb (table_verdict T).number 0 h, ne_eqb (table_verdict T).number 0 h)

-- ---- in accepted tables

module _ (T : Tables) (ok : AcceptedTables T) (xs ys : List ℤ) (r : ℕ) where
  abbrev verdict : Verdict
  verdict = clip_verdict T (length xs) (length ys) r

  -- the answer by its verdict
  by_verdict : {v : Verdict} → v ≡ verdict → clip_check T xs ys r ≡ clip_report_by v (clip_of T (points xs ys) r) r
  by_verdict e = ap (λ (v : Verdict). clip_report_by v (clip_of T (points xs ys) r) r) (sym e)

  pub room : (RightLength T xs ys → ⊥) → clip_check T xs ys r ≡ record { number = 10; place = 0; clip = None; register = r }
  unfolding clip_report_by clip_verdict clip_inputs
  room wrong = by_verdict (and_past (table_verdict T) ok (test_here 10 _ ((not-eq-not {b = true}).0 (λ e. wrong (exact_lists T ok xs ys 0 r e)))))

  module _ (right : RightLength T xs ys) where
    fits : room_test (length xs) (length T.tones) || room_test (length ys) (length T.tones) ≡ false
    fits = lists_fit T ok xs ys 0 r right

    pub seed : (ValidRegister r → ⊥) → clip_check T xs ys r ≡ record { number = 12; place = 0; clip = None; register = r }
    unfolding clip_report_by clip_verdict clip_inputs
    seed bad = by_verdict (and_past (table_verdict T) ok (test_past 10 fits (test_here 12 _ ((not-eq-not {b = true}).0 bad))))

    pub done : ValidRegister r → clip_check T xs ys r ≡ record { number = 0; place = 0; clip = Some (clip_of T (points xs ys) r); register = r }
    unfolding clip_report_by clip_verdict clip_inputs
    done valid = by_verdict (and_past (table_verdict T) ok (test_past 10 fits (test_past 12 valid refl)))

-- ---- which way round

by_straight : (a b : Bool) → clip_by a b ≡ Straight → a ≡ true
by_straight true b e = refl
by_straight false true e = absurd (let z : ◌≡◌ {A = ℕ} 1 2 = ap number_in (sym e) in omega arith)
by_straight false false e = absurd (let z : ◌≡◌ {A = ℕ} 1 3 = ap number_in (sym e) in omega arith)

by_turned : (a b : Bool) → clip_by a b ≡ Turned → b ≡ true
by_turned true b e = absurd (let z : ◌≡◌ {A = ℕ} 1 2 = ap number_in e in omega arith)
by_turned false true e = refl
by_turned false false e = absurd (let z : ◌≡◌ {A = ℕ} 3 2 = ap number_in e in omega arith)

by_tells : (a b : Bool) → clip_by a b ≢ CannotTell
by_tells true b e = let z : ◌≡◌ {A = ℕ} 1 4 = ap number_in e in omega arith
by_tells false true e = let z : ◌≡◌ {A = ℕ} 2 4 = ap number_in e in omega arith
by_tells false false e = let z : ◌≡◌ {A = ℕ} 3 4 = ap number_in e in omega arith

by_neither : (a b : Bool) → (a ≡ true → ⊥) → (b ≡ true → ⊥) → clip_by a b ≡ Neither
by_neither true b h k = absurd (h refl)
by_neither false true h k = absurd (k refl)
by_neither false false h k = refl

straight_not : ◌≡◌ {A = Clip} Straight Neither → ⊥
straight_not e = let z : ◌≡◌ {A = ℕ} 1 3 = ap number_in e in omega arith

turned_not : ◌≡◌ {A = Clip} Turned Neither → ⊥
turned_not e = let z : ◌≡◌ {A = ℕ} 2 3 = ap number_in e in omega arith

module _ (T : Tables) (q : List Point) (r : ℕ) where
  pub cannot_tell : (clip_of T q r ≡ CannotTell) ↔ (first_monitored T ≡ None)
  unfolding clip_of
  cannot_tell = (λ e. go (first_monitored T) refl e, λ e. ap (clip_at T q r) e)
    where
      go : (f : Option ℕ) → first_monitored T ≡ f → clip_at T q r f ≡ CannotTell → first_monitored T ≡ None
      go None m e = m
      go (Some k) m e = absurd (by_tells (same_point (get_or q k origin) (filler_point T r k)) (same_point (get_or q k origin) (negated (filler_point T r k))) e)

  module _ (k : ℕ) (m : first_monitored T ≡ Some k) where
    abbrev filler : Point
    filler = filler_point T r k

    clip_is : clip_of T q r ≡ clip_against filler (get_or q k origin)
    unfolding clip_of
    clip_is = ap (clip_at T q r) m

    -- the opposite point is another one
    differs : same_point (negated filler) filler ≡ false
    differs = two_moves half_point (drawn 2 (register_after r (take k (classes_of T)))) refl

    pub straight : (clip_of T q r ≡ Straight) ↔ (get_or q k origin ≡ filler)
    straight = (
      λ e. same_point→eq (get_or q k origin) filler (by_straight (same_point (get_or q k origin) filler) (same_point (get_or q k origin) (negated filler)) (sym clip_is ∙ e)),
      λ e. clip_is ∙ rw (e, same_point_self filler),
    )

    pub turned : (clip_of T q r ≡ Turned) ↔ (get_or q k origin ≡ negated filler)
    turned = (
      λ e. same_point→eq (get_or q k origin) (negated filler) (by_turned (same_point (get_or q k origin) filler) (same_point (get_or q k origin) (negated filler)) (sym clip_is ∙ e)),
      λ e. clip_is ∙ rw (e, differs, same_point_self (negated filler)),
    )

    pub neither : (clip_of T q r ≡ Neither) ↔ ((get_or q k origin ≢ filler) × (get_or q k origin ≢ negated filler))
    neither = (
      λ e. (λ z. straight_not (sym (straight.1 z) ∙ e), λ z. turned_not (sym (turned.1 z) ∙ e)),
      λ h. clip_is ∙ by_neither (same_point (get_or q k origin) filler) (same_point (get_or q k origin) (negated filler))
          (λ z. h.0 (same_point→eq (get_or q k origin) filler z)) (λ z. h.1 (same_point→eq (get_or q k origin) (negated filler) z)),
    )

-- no other point matters
pub one_tone : (T : Tables) (r : ℕ) (X Y X' Y' : List ℤ) → length X ≡ length X' → length Y ≡ length Y'
    → ((k : ℕ) → first_monitored T ≡ Some k → get_or (points X Y) k origin ≡ get_or (points X' Y') k origin) → clip_check T X Y r ≡ clip_check T X' Y' r
unfolding clip_of
one_tone T r X Y X' Y' lx ly same = rw (lx, ly) (ap (λ (c : Clip). clip_report_by (clip_verdict T (length X') (length Y') r) c r) (go (first_monitored T) same))
  where
    go : (f : Option ℕ) → ((k : ℕ) → f ≡ Some k → get_or (points X Y) k origin ≡ get_or (points X' Y') k origin) → clip_at T (points X Y) r f ≡ clip_at T (points X' Y') r f
    go None h = refl
    go (Some k) h = ap (clip_against (filler_point T r k)) (h k refl)
