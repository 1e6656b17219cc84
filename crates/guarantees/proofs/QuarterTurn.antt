-- A quarter turn, either way, of a written symbol in coded mode is always refused: with 13 at the first 1-bit tone; where there is none, with
-- 14 at the first monitored tone; where there is neither, with 15 at pair 0 or 1. No register reads it.
use Rattle.std.specs.Prelude.{Option, None, Some}
use Prim.Native.Nat.{ℕ, zero, suc, ◌+◌, ◌-◌, ◌/◌, ◌%◌, ◌≤◌, ◌<◌}
use mathlib.Core.Bool.{Bool, true, false, not, true≢false}
use mathlib.Core.List.{List, [], ◌∷◌, map}
use mathlib.Core.Logic.{◌≢◌, ◌⊎◌, inl, inr}
use mathlib.Core.Path.{◌≡◌, refl, sym, ap, ap₂, ◌∙◌, subst}
use native.Mathlib.Omega.{arith}
use borrow.Author.Tests.{eqb-true, eqb-false, eq-eqb, ne_eqb, le-ltb}
use lib.Dec.{ltb, eqb}
use lib.IntN.{ℤ, neg_ℤ, neg_ℤ-neg_ℤ}
use lib.ListN.{length, get_or, length-map}
use Rattle.g9932.specs.Bits.{first}
use Rattle.g9932.specs.Sizes.{Tables, entry, class_by, class_of, frame_bits, Point, point, points}
use Rattle.g9932.specs.Refusals.{Verdict, refused, accepted, refuse_at}
use Rattle.g9932.specs.Order.{is_one, one_bit, ones, reordered_tones}
use Rattle.g9932.specs.Points.{point_of, quarters, label_of}
use Rattle.g9932.specs.Symbol.{classes_by, reordered_tones_of, classes_of, first_monitored, pairs_in, size_of, written_points, offgrid_test, gather_bits, reading_in}
use Rattle.g9932.specs.Trellis.{breaks}
use Rattle.g9932.specs.Answers.{on_done, report_by, break_in, points_verdict, Read, read_at}
use Rattle.g9932.specs.declared.Class.TheVariants.{Monitored, Silent}
use Rattle.g9932.specs.declared.Mode.TheVariants.{Coded}
use Rattle.g9932.proofs.Accepted.{Accepted, accepted_tables}
use Rattle.g9932.proofs.Counts.{two_loaded, two_not_one}
use Rattle.g9932.proofs.HalfWord.{not_self}
use Rattle.g9932.proofs.QuarterPairs.{By, turned_breaks, turned_by}
use Rattle.g9932.proofs.Quarters.{quarter_left, quarter_right, point_turned, one_left, one_right}
use Rattle.g9932.proofs.Reordering.{first_single, no_single}
use Rattle.g9932.proofs.Search.{found_not, first_no, first_found, first_ext}
use Rattle.g9932.proofs.Sent.{length_classes}
use Rattle.guarantees.specs.Words.{AcceptedFrame, RightLength, Ready, non_zero, one_bit_tones, turned, first_one_bit, quarter_pair, BreaksBy, quarter_verdict}
use Rattle.guarantees.proofs.Operations.{not_broken, read_points}
use Rattle.guarantees.proofs.RoundTrip.{X-of, Y-of, encoded_xs, encoded_ys, encoded_right}
use Rattle.guarantees.proofs.TurnedSymbol.{PointTurn, leaves, first_leaving, is_N, formed_as, taken_bits_lem, off_13, verdict_turned, decoded_turned, turned_reading, verdict_read}

-- ---- the turns of points: those of 1 bit leave their constellation, and no others

pub only_one : (n : ℕ) → ((v : List Bool) → length v ≡ 1 → label_of 1 (quarters n (point_of 1 v)) ≡ None)
    → (b : ℕ) (v : List Bool) → 1 ≤ b → b < 2 → length v ≡ b → label_of b (quarters n (point_of b v)) ≡ None
only_one n law zero v h k l = absurd (omega arith)
only_one n law (suc zero) v h k l = law v l
only_one n law (suc (suc b)) v h k l = absurd (omega arith)

abbrev pub left_point : PointTurn
left_point =
    record { labels = quarter_left; point = quarters 1; least = 2; small = omega arith; still = refl; label = point_turned 1; off = only_one 1 one_left }

abbrev pub right_point : PointTurn
right_point =
    record { labels = quarter_right; point = quarters 3; least = 2; small = omega arith; still = refl; label = point_turned 3; off = only_one 3 one_right }

two_four : (n p : ℕ) → 4 ≤ n → p ≡ (n + 1) / 2 → eqb p 2 ≡ eqb n 4
two_four n p h e = go (eqb n 4) refl
  where
    go : (s : Bool) → eqb n 4 ≡ s → eqb p 2 ≡ s
    go true s = let i = eqb-true n 4 s in eq-eqb p 2 (omega arith)
    go false s = ne_eqb p 2 (λ i. eqb-false n 4 s (omega arith))

other_bit : {a b : Bool} → a ≡ not b → b ≢ a
other_bit e h = not_self _ (h ∙ e)

-- where no 1-bit tone is found in t', none is counted
none_counted : (b t : List ℕ) → first (λ k. one_bit b (entry (reordered_tones Coded b t) k)) (length t) ≡ None → ones b t ≡ 0
none_counted b t e = go (ones b t) refl
  where
    go : (n : ℕ) → ones b t ≡ n → n ≡ 0
    go zero h = refl
    go (suc n) h = absurd (found_not (sym (first_single b t (omega arith)) ∙ e))

-- ---- a turn that takes 1-bit points off their constellation, and makes v0 xor v1 of every longer label the other bit

module _ (turn : PointTurn) (two : turn.least ≡ 2) (flips : turn.labels.flips ≡ true) where
  one_leaves : (b g : ℕ) → leaves turn (class_of b g) ≡ is_one b
  one_leaves zero g = go (ltb 0 g)
    where
      go : (s : Bool) → leaves turn (class_by s Monitored Silent) ≡ false
      go true = refl
      go false = refl
  one_leaves (suc zero) g = ap (ltb 1) two
  one_leaves (suc (suc b)) g =
      let high : ltb (suc (suc b)) turn.least ≡ false = ap (ltb (suc (suc b))) two ∙ le-ltb (suc (suc b)) 2 (omega arith) in
      rw (two_loaded b, two_not_one b) high

  place_leaves : (b g t : List ℕ) (k : ℕ) → k < length t → leaves turn (get_or (classes_by b g t) k Silent) ≡ one_bit b (entry t k)
  place_leaves b g [] k h = absurd (omega arith)
  place_leaves b g (j ∷ t) zero h = one_leaves (entry b j) (entry g j)
  place_leaves b g (j ∷ t) (suc k) h = place_leaves b g t k (omega arith)

  module _ (T : Tables) (a : Accepted T) (m : T.mode ≡ Coded) where
    leaves_at : (k : ℕ) → k < length T.tones → leaves turn (get_or (classes_of T) k Silent) ≡ one_bit T.bits (entry (reordered_tones_of T) k)
    leaves_at k h = place_leaves T.bits T.gains (reordered_tones_of T) k (omega (arith, a.order_length))

    -- P is 2 where N is 4
    two_pairs : eqb (length (pairs_in T)) 2 ≡ eqb (non_zero T) 4
    two_pairs =
        let c = a.coded m in
        two_four (non_zero T) (length (pairs_in T)) (rw (is_N T a m) c.enough_entries)
        (c.pairs_length ∙ ap (λ (n : ℕ). (n + 1) / 2) (sym c.entries_length ∙ sym (is_N T a m)))

    is_13 : first_leaving turn T ≡ first_one_bit T
    is_13 = first_ext _ _ (length T.tones) leaves_at

    module _ (r start : ℕ) (f : List ℕ) (ok : AcceptedFrame T start f) where
      abbrev q : List Point
      q = map turn.point (written_points T r start f)

      abbrev g : List Bool
      g = frame_bits start (size_of T) f

      -- where there is no 1-bit tone
      module _ (e : first_one_bit T ≡ None) where
        none_leaves : (k : ℕ) → k < length (classes_of T) → leaves turn (get_or (classes_of T) k Silent) ≡ false
        none_leaves k h =
            let i : k < length T.tones = omega (arith, length_classes T) in
            leaves_at k i ∙ first_no _ (length T.tones) e k i

        no_ones : ones T.bits T.tones ≡ 0
        no_ones = none_counted T.bits T.tones (rw m at e)

        broken : reading_in T q ≡ breaks (quarter_pair T)
        broken =
            turned_reading turn T a m r start f ok none_leaves (λ d l. rw no_ones)
            ∙ rw two_pairs at (turned_breaks turn.labels flips (is_one (non_zero T % 2)) (pairs_in T) g (formed_as T a m _ refl) (taken_bits_lem T a m start f ok))

        by : By (is_one (non_zero T % 2)) (pairs_in T) (gather_bits (classes_of T) q)
        by =
            subst (By (is_one (non_zero T % 2)) (pairs_in T)) (sym (decoded_turned turn T a m r start f ok none_leaves (λ d l. rw no_ones)))
            (turned_by turn.labels flips (is_one (non_zero T % 2)) (pairs_in T) g (formed_as T a m _ refl) (taken_bits_lem T a m start f ok))

        breaks_by : BreaksBy T q
        breaks_by =
            record {
              stops = broken;
              odd_n = λ n. other_bit (by.lone (eq-eqb (non_zero T % 2) 1 n));
              four = λ n.
                  let even = ne_eqb (non_zero T % 2) 1 (λ h. omega arith) in
                  let two : length (pairs_in T) ≡ 2 = eqb-true _ _ (two_pairs ∙ eq-eqb (non_zero T) 4 n) in
                  let stay = by.rest even two in
                  (stay.0, other_bit (by.forced even two), stay.1);
              more = λ n h. other_bit (by.next (ne_eqb (non_zero T % 2) 1 (λ k. omega arith)) (λ k. h (eqb-true _ _ (sym two_pairs ∙ eq-eqb _ 2 k))));
            }

      points_refused : points_verdict T q r ≡ quarter_verdict T
      unfolding refuse_at
      points_refused = verdict_turned turn T a m r start f ok ∙ rw is_13 (go (first_one_bit T) refl)
        where
          go : (s : Option ℕ) → first_one_bit T ≡ s
              → refuse_at 13 s (refuse_at 14 (first_monitored T) (refuse_at 15 (break_in (reading_in T q)) (accepted (size_of T))))
              ≡ refuse_at 13 s (refuse_at 14 (first_monitored T) (refused 15 (quarter_pair T)))
          go (Some k) e = refl
          go None e = rw (broken e)

      -- no register reads the points
      never_read : (X Y : List ℤ) → points X Y ≡ q → (s start' : ℕ) (f' : List ℕ) → (read_at T X Y s start' f').report.verdict.number ≢ 0
      never_read X Y are s start' f' h = go (first_one_bit T) refl
        where
          go : (o : Option ℕ) → first_one_bit T ≡ o → ⊥
          go None e = not_broken (sym (read_points T X Y s start' f' h).2 ∙ ap (reading_in T) are ∙ broken e)
          go (Some k) e =
              let w = first_found _ (length T.tones) k e in
              let i : k < length (classes_of T) = omega (arith, length_classes T, w.0) in
              absurd (true≢false (sym (off_13 turn T a m r start f ok k i ∙ leaves_at k w.0 ∙ w.1) ∙ sym (ap (λ z. offgrid_test (classes_of T) z k) are) ∙ (read_points T X Y s start' f' h).0.on k i))

-- ---- the promises

pub points_left : (q : List Point) → points (turned (map (λ p. p.py) q)) (map (λ p. p.px) q) ≡ map (quarters 1) q
unfolding points
points_left [] = refl
points_left (p ∷ q) = ap (λ (l : List Point). quarters 1 p ∷ l) (points_left q)

right_quarter : (p : Point) → point p.py (neg_ℤ p.px) ≡ quarters 3 p
right_quarter p = let e = neg_ℤ-neg_ℤ p.py in λ i. record { px = sym e i; py = neg_ℤ p.px }

pub points_right : (q : List Point) → points (map (λ p. p.py) q) (turned (map (λ p. p.px) q)) ≡ map (quarters 3) q
unfolding points
points_right [] = refl
points_right (p ∷ q) = ap₂ (λ (a : Point) (l : List Point). a ∷ l) (right_quarter p) (points_right q)

-- the verdict, case by case
module _ (T : Tables) where
  odd_or_four : non_zero T % 2 ≡ 1 ⊎ non_zero T ≡ 4 → quarter_pair T ≡ 0
  odd_or_four (inl o) = rw (eq-eqb (non_zero T % 2) 1 o)
  odd_or_four (inr f) = rw f

  even_above : non_zero T % 2 ≡ 0 → non_zero T ≢ 4 → quarter_pair T ≡ 1
  even_above e f = rw (ne_eqb (non_zero T % 2) 1 (λ h. omega arith), ne_eqb (non_zero T) 4 f)

  pub quarter_refusals :
      ((k : ℕ) → first_one_bit T ≡ Some k → quarter_verdict T ≡ refused 13 k)
      × (first_one_bit T ≡ None → (k : ℕ) → first_monitored T ≡ Some k → quarter_verdict T ≡ refused 14 k)
      × (first_one_bit T ≡ None → first_monitored T ≡ None → (non_zero T % 2 ≡ 1) ⊎ (non_zero T ≡ 4) → quarter_verdict T ≡ refused 15 0)
      × (first_one_bit T ≡ None → first_monitored T ≡ None → non_zero T % 2 ≡ 0 → non_zero T ≢ 4 → quarter_verdict T ≡ refused 15 1)
  unfolding refuse_at
  quarter_refusals = (
    λ k e. rw e,
    λ e k d. rw (e, d),
    λ e d o. rw (e, d) (ap (refused 15) (odd_or_four o)),
    λ e d n f. rw (e, d) (ap (refused 15) (even_above n f)),
  )

  pub first_one_bit_lem : T.mode ≡ Coded → (0 < one_bit_tones T → first_one_bit T ≡ Some (length T.tones - one_bit_tones T)) × (one_bit_tones T ≡ 0 → first_one_bit T ≡ None)
  first_one_bit_lem m = (
    λ h. rw m (first_single T.bits T.tones h),
    λ z. rw m (no_single T.bits T.tones z),
  )

quarter_number : (T : Tables) → (quarter_verdict T).number ≢ 0
unfolding refuse_at
quarter_number T = go (first_one_bit T) (first_monitored T)
  where
    go : (s n : Option ℕ) → (refuse_at 13 s (refuse_at 14 n (refused 15 (quarter_pair T)))).number ≢ 0
    go (Some k) n e = omega arith
    go None (Some k) e = omega arith
    go None None e = omega arith

-- the whole answer of a reading that is refused
abbrev pub refused_read : Verdict → ℕ → List ℕ → Read
refused_read v r f₀ = record { report = record { verdict = v; register = r }; frame = f₀ }

module _ (T : Tables) (r start : ℕ) (xs ys : List ℤ) (f₀ : List ℕ) (ready : Ready T r start xs ys f₀) (m : T.mode ≡ Coded)
    (f : List ℕ) (ok : AcceptedFrame T start f) where
  facts : Accepted T
  facts = accepted_tables T ready.tables

  abbrev X : List ℤ
  X = X-of T r start xs ys f₀ ready f

  abbrev Y : List ℤ
  Y = Y-of T r start xs ys f₀ ready f

  right : RightLength T X Y
  right = encoded_right T r start xs ys f₀ ready f ok

  -- lists of the right length that hold the written points, turned
  module _ (turn : PointTurn) (two : turn.least ≡ 2) (flips : turn.labels.flips ≡ true) (X' Y' : List ℤ) (lengths : RightLength T X' Y')
      (are : points X' Y' ≡ map turn.point (written_points T r start f)) where
    answer : read_at T X' Y' r start f₀ ≡ refused_read (quarter_verdict T) r f₀
    unfolding on_done report_by
    answer =
        let v : (read_at T X' Y' r start f₀).report.verdict ≡ quarter_verdict T =
        verdict_read turn T r start xs ys f₀ ready f ok X' Y' lengths are ∙ points_refused turn two flips T facts m r start f ok in
        let n = ne_eqb (quarter_verdict T).number 0 (quarter_number T) in
        rw (v, n)

  left_lengths : RightLength T (turned Y) X
  left_lengths = record { xs_length = length-map Y neg_ℤ ∙ right.ys_length; ys_length = right.xs_length }

  left_points : points (turned Y) X ≡ map (quarters 1) (written_points T r start f)
  left_points = rw (encoded_xs T r start xs ys f₀ ready f ok, encoded_ys T r start xs ys f₀ ready f ok) (points_left (written_points T r start f))

  right_lengths : RightLength T Y (turned X)
  right_lengths = record { xs_length = right.ys_length; ys_length = length-map X neg_ℤ ∙ right.xs_length }

  right_points : points Y (turned X) ≡ map (quarters 3) (written_points T r start f)
  right_points = rw (encoded_xs T r start xs ys f₀ ready f ok, encoded_ys T r start xs ys f₀ ready f ok) (points_right (written_points T r start f))

  pub quarter_turn : (read_at T (turned Y) X r start f₀ ≡ refused_read (quarter_verdict T) r f₀) × (read_at T Y (turned X) r start f₀ ≡ refused_read (quarter_verdict T) r f₀)
  quarter_turn = (
    answer left_point refl refl (turned Y) X left_lengths left_points,
    answer right_point refl refl Y (turned X) right_lengths right_points,
  )

  pub quarter_by_what : first_one_bit T ≡ None → BreaksBy T (points (turned Y) X) × BreaksBy T (points Y (turned X))
  quarter_by_what e = (
    subst (BreaksBy T) (sym left_points) (breaks_by left_point refl refl T facts m r start f ok e),
    subst (BreaksBy T) (sym right_points) (breaks_by right_point refl refl T facts m r start f ok e),
  )

  pub quarter-any-register : (s start' : ℕ) (f' : List ℕ)
      → ((read_at T (turned Y) X s start' f').report.verdict.number ≢ 0) × ((read_at T Y (turned X) s start' f').report.verdict.number ≢ 0)
  quarter-any-register s start' f' = (
    never_read left_point refl refl T facts m r start f ok (turned Y) X left_points s start' f',
    never_read right_point refl refl T facts m r start f ok Y (turned X) right_points s start' f',
  )
