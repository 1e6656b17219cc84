-- Half a turn of a written symbol in coded mode: with a monitored tone it fails 14 at the first one; else it is read as another
-- frame where N is even, and breaks the code where N is odd.
use Rattle.std.specs.Prelude.{Option, None, Some}
use Prim.Native.Nat.{ℕ, zero, suc, ◌/◌, ◌%◌, ◌≤◌, ◌<◌}
use mathlib.Core.Bool.{Bool, true, false, cond}
use mathlib.Core.List.{List, [], ◌∷◌, map}
use mathlib.Core.Logic.{◌↔◌, ◌≢◌}
use mathlib.Core.Path.{◌≡◌, refl, sym, ap, ◌∙◌, subst}
use native.Mathlib.Omega.{arith}
use borrow.Author.Tests.{eq-eqb, ne_eqb, le-ltb}
use lib.Dec.{eqb}
use lib.IntN.{ℤ, neg_ℤ}
use lib.ListN.{length, get_or, length-map}
use Rattle.g9932.specs.Sizes.{Tables, pack, frame_bits, Point, points}
use Rattle.g9932.specs.Refusals.{Verdict, refused}
use Rattle.g9932.specs.Order.{ones}
use Rattle.g9932.specs.Trellis.{zero_state, encode_pairs, frame, breaks, read_pairs}
use Rattle.g9932.specs.Points.{negated}
use Rattle.g9932.specs.Symbol.{classes_of, reordered_tones_of, pairs_in, size_of, written_points, offgrid_test, monitor_test, gather_bits, reading_in, first_monitored}
use Rattle.g9932.specs.Answers.{break_in, points_verdict, Read, read_at}
use Rattle.g9932.specs.declared.Class.{Class}
use Rattle.g9932.specs.declared.Class.TheVariants.{Data, Monitored, Silent}
use Rattle.g9932.specs.declared.Mode.TheVariants.{Coded}
use Rattle.g9932.proofs.Accepted.{Accepted, accepted_tables}
use Rattle.g9932.proofs.HalfPairs.{half_turned, turned_even, turned_odd}
use Rattle.g9932.proofs.Packed.{start_most_lem}
use Rattle.g9932.proofs.Quarters.{half, point_opposite}
use Rattle.g9932.proofs.Search.{first_no, first_all}
use Rattle.g9932.proofs.Sent.{length_classes, loads_sum, sent_of_read}
use Rattle.g9932.proofs.Symbols.{length_gather}
use Rattle.g9932.proofs.TurnedTones.{half_ones}
use Rattle.g9932.proofs.Verdicts.{found_here, found_past}
use Rattle.guarantees.specs.Words.{AcceptedFrame, RightLength, Ready, non_zero, turned}
use Rattle.guarantees.proofs.Operations.{Passes, not_broken, done, reading_done, read_points}
use Rattle.guarantees.proofs.RoundTrip.{length_written, packed_frame, packed_bits, X-of, Y-of, encoded_xs, encoded_ys, encoded_right}
use Rattle.guarantees.proofs.TurnedSymbol.{AllLoaded, loaded_classes, PointTurn, leaves, first_leaving, formed_as, taken_bits_lem, off_13, at_14, verdict_turned, turned_reading, verdict_read}

pub points_turned : (q : List Point) → points (turned (map (λ p. p.px) q)) (turned (map (λ p. p.py) q)) ≡ map negated q
unfolding points
points_turned [] = refl
points_turned (p ∷ q) = ap (λ (l : List Point). negated p ∷ l) (points_turned q)

-- half a turn of points: no point leaves its constellation
abbrev pub half_point : PointTurn
half_point =
    record {
      labels = half;
      point = negated;
      least = 1;
      small = omega arith;
      still = refl;
      label = point_opposite;
      off = λ b v h k l. absurd (omega arith);
    }

none_leaves : (cs : List Class) → AllLoaded cs → (k : ℕ) → k < length cs → leaves half_point (get_or cs k Silent) ≡ false
none_leaves [] h k l = absurd (omega arith)
none_leaves (Data n ∷ cs) h zero l = le-ltb n 1 h.0
none_leaves (Monitored ∷ cs) h zero l = refl
none_leaves (Silent ∷ cs) h zero l = refl
none_leaves (c ∷ cs) h (suc k) l = none_leaves cs h.1 k (omega arith)

-- ---- the turned points of accepted tables in coded mode

module _ (T : Tables) (a : Accepted T) (m : T.mode ≡ Coded) (r start : ℕ) (f : List ℕ) (ok : AcceptedFrame T start f) where
  abbrev q : List Point
  q = map negated (written_points T r start f)

  abbrev g : List Bool
  g = frame_bits start (size_of T) f

  none : (k : ℕ) → k < length (classes_of T) → leaves half_point (get_or (classes_of T) k Silent) ≡ false
  none = none_leaves (classes_of T) (loaded_classes T.bits T.gains (reordered_tones_of T))

  pub no_13 : (k : ℕ) → k < length (classes_of T) → offgrid_test (classes_of T) q k ≡ false
  no_13 k h = off_13 half_point T a m r start f ok k h ∙ none k h

  half_reading : reading_in T q ≡ read_pairs zero_state (pairs_in T) (half_turned (pairs_in T) (encode_pairs zero_state (pairs_in T) g))
  half_reading =
      let n : ℕ = ones T.bits T.tones in
      let even : n % 2 ≡ 0 = (a.coded m).ones_even in
      turned_reading half_point T a m r start f ok none (λ d l. half_ones (n / 2) n d (omega arith) l)

  -- whatever is monitored: N odd breaks the code, and N even gives the bits of another frame
  pub reading_odd : non_zero T % 2 ≡ 1 → reading_in T q ≡ breaks (cond (eqb (length (pairs_in T)) 3) 1 2)
  reading_odd n = half_reading ∙ turned_odd (pairs_in T) g (formed_as T a m true (eq-eqb (non_zero T % 2) 1 n)) (taken_bits_lem T a m start f ok)

  pub reading_even : non_zero T % 2 ≡ 0 → (h : List Bool) × (reading_in T q ≡ frame h) × (length h ≡ size_of T) × (h ≢ g)
  unfolding reading_in
  reading_even n =
      let o = formed_as T a m false (ne_eqb (non_zero T % 2) 1 (λ h. omega arith)) in
      let t = turned_even (pairs_in T) g o (taken_bits_lem T a m start f ok) in
      let is : reading_in T q ≡ frame t.0 = half_reading ∙ t.1 in
      let lq : length q ≡ length (classes_of T) = length-map (written_points T r start f) negated ∙ length_written T a r start f ∙ sym (length_classes T) in
      let lg = length_gather (classes_of T) q lq no_13 ∙ loads_sum T in
      (t.0, is, (sent_of_read T a (gather_bits (classes_of T) q) t.0 lg is).0, t.2)

  -- ---- the verdict on them

  stays : first_leaving half_point T ≡ None
  stays = first_all _ (length T.tones) (λ k h. none k (rw (length_classes T) h))

  pub points_monitored : (k : ℕ) → first_monitored T ≡ Some k → refused 14 k ≡ points_verdict T q r
  points_monitored k e = found_past 13 stays (found_here 14 _ e) ∙ sym (verdict_turned half_point T a m r start f ok)

  pub points_odd : first_monitored T ≡ None → non_zero T % 2 ≡ 1 → refused 15 (cond (eqb (length (pairs_in T)) 3) 1 2) ≡ points_verdict T q r
  points_odd e n = found_past 13 stays (found_past 14 e (found_here 15 _ (ap break_in (reading_odd n)))) ∙ sym (verdict_turned half_point T a m r start f ok)

  pub points_even : first_monitored T ≡ None → non_zero T % 2 ≡ 0
      → Passes T q r × (h : List Bool) × (reading_in T q ≡ frame h) × (length h ≡ size_of T) × (h ≢ g)
  points_even e n =
      let t = reading_even n in (
        record {
          on = no_13;
          filled = first_no (monitor_test r (classes_of T) q) (length (classes_of T)) (at_14 half_point T a m r start f ok ∙ e);
        },
        t.0,
        t.1,
        t.2,
        t.3,
      )

-- ---- the promises

module _ (T : Tables) (r start : ℕ) (xs ys : List ℤ) (f₀ : List ℕ) (ready : Ready T r start xs ys f₀) where
  abbrev pub turned_read : List ℕ → Read
  turned_read f = read_at T (turned (X-of T r start xs ys f₀ ready f)) (turned (Y-of T r start xs ys f₀ ready f)) r start f₀

  module _ (m : T.mode ≡ Coded) (f : List ℕ) (ok : AcceptedFrame T start f) where
    facts : Accepted T
    facts = accepted_tables T ready.tables

    small : start ≤ 7
    small = start_most_lem start (size_of T) f ok.passes

    abbrev X' : List ℤ
    X' = turned (X-of T r start xs ys f₀ ready f)

    abbrev Y' : List ℤ
    Y' = turned (Y-of T r start xs ys f₀ ready f)

    pub right : RightLength T X' Y'
    right =
        let e = encoded_right T r start xs ys f₀ ready f ok in
        record {
          xs_length = length-map (X-of T r start xs ys f₀ ready f) neg_ℤ ∙ e.xs_length;
          ys_length = length-map (Y-of T r start xs ys f₀ ready f) neg_ℤ ∙ e.ys_length;
        }

    pub are_points : points X' Y' ≡ map negated (written_points T r start f)
    are_points = rw (encoded_xs T r start xs ys f₀ ready f ok, encoded_ys T r start xs ys f₀ ready f ok) (points_turned (written_points T r start f))

    verdict_is : (turned_read f).report.verdict ≡ points_verdict T (map negated (written_points T r start f)) r
    verdict_is = verdict_read half_point T r start xs ys f₀ ready f ok X' Y' right are_points

    -- where N is odd no register reads it, from whatever start and into whatever buffer
    pub half-turn-any-register : non_zero T % 2 ≡ 1 → (s start' : ℕ) (f' : List ℕ) → (read_at T X' Y' s start' f').report.verdict.number ≢ 0
    half-turn-any-register n s start' f' h =
        not_broken (sym (read_points T X' Y' s start' f' h).2 ∙ ap (reading_in T) are_points ∙ reading_odd T facts m r start f ok n)

    pub half-turn-monitored : (k : ℕ) → first_monitored T ≡ Some k → (turned_read f).report.verdict ≡ refused 14 k
    half-turn-monitored k e = verdict_is ∙ sym (points_monitored T facts m r start f ok k e)

    pub half_turn_odd : first_monitored T ≡ None → non_zero T % 2 ≡ 1
        → (turned_read f).report.verdict ≡ refused 15 (cond (eqb (length (pairs_in T)) 3) 1 2)
    half_turn_odd e n = verdict_is ∙ sym (points_odd T facts m r start f ok e n)

    pub half_turn_only : (turned_read f).report.verdict.number ≡ 0 → (first_monitored T ≡ None) × (non_zero T % 2 ≡ 0)
    half_turn_only h = go (first_monitored T) refl (non_zero T % 2) refl
      where
        go : (a : Option ℕ) → first_monitored T ≡ a → (n : ℕ) → non_zero T % 2 ≡ n → (first_monitored T ≡ None) × (non_zero T % 2 ≡ 0)
        go (Some k) e n d = absurd (omega (arith, ap (λ (v : Verdict). v.number) (half-turn-monitored k e)))
        go None e zero d = (e, d)
        go None e (suc n) d = absurd (omega (arith, ap (λ (v : Verdict). v.number) (half_turn_odd e (omega arith))))

    pub half_turn_even : first_monitored T ≡ None → non_zero T % 2 ≡ 0
        → ((turned_read f).report.verdict.number ≡ 0) × AcceptedFrame T start (turned_read f).frame × ((turned_read f).frame ≢ f)
    half_turn_even e n =
        let p = points_even T facts m r start f ok e n in
        let whole : turned_read f ≡ record { report = done T r; frame = pack start p.1 } =
        reading_done T r start xs ys f₀ ready small X' Y' p.1 right (rw are_points p.0) (ap (reading_in T) are_points ∙ p.2) in
        let is : (turned_read f).frame ≡ pack start p.1 = ap (λ (a : Read). a.frame) whole in (
          ap (λ (a : Read). a.report.verdict.number) whole,
          subst (λ (z : List ℕ). AcceptedFrame T start z) (sym is) (packed_frame T start p.1 p.3 small),
          λ same. p.4 (sym (packed_bits T start p.1 p.3) ∙ ap (frame_bits start (size_of T)) (sym is ∙ same)),
        )

    pub half-turn : (((turned_read f).report.verdict.number ≡ 0) × AcceptedFrame T start (turned_read f).frame × ((turned_read f).frame ≢ f))
        ↔ ((first_monitored T ≡ None) × (non_zero T % 2 ≡ 0))
    half-turn = (λ h. half_turn_only h.0, λ h. half_turn_even h.0 h.1)
