-- The clip check answers what two readings would, of a written symbol and of one turned by half a turn.
use Rattle.std.specs.Prelude.{None, Some}
use Prim.Native.Nat.{ℕ, ◌%◌, ◌≤◌}
use mathlib.Core.Bool.{Bool, true, false}
use mathlib.Core.List.{List, [], ◌∷◌, map}
use mathlib.Core.Logic.{◌↔◌, ◌≢◌, ◌⊎◌, inl, inr, ⊎_elim}
use mathlib.Core.Path.{◌≡◌, refl, sym, ap, ap₂, ◌∙◌}
use native.Mathlib.Omega.{arith}
use borrow.Author.Tests.{eqb-true}
use lib.Dec.{eqb}
use lib.IntN.{ℤ, neg_ℤ, neg_ℤ-neg_ℤ}
use lib.ListN.{length, get_or, length-map, get_or-map}
use Rattle.g9932.specs.Clip.{filler_point, clip_of, clip_check, clip_number}
use Rattle.g9932.specs.Points.{negated}
use Rattle.g9932.specs.Refusals.{Verdict}
use Rattle.g9932.specs.Sizes.{Tables, bytes_for, pack, frame_bits, Point, origin, points}
use Rattle.g9932.specs.Symbol.{classes_of, size_of, sent_in, written_points, is_monitored, first_monitored}
use Rattle.g9932.specs.Answers.{encode_at, read_at}
use Rattle.g9932.specs.declared.Class.{Class}
use Rattle.g9932.specs.declared.Class.TheVariants.{Data, Monitored, Silent}
use Rattle.g9932.specs.declared.Clip.{Clip}
use Rattle.g9932.specs.declared.Clip.TheVariants.{Straight, Turned, Neither, CannotTell}
use Rattle.g9932.specs.declared.Mode.TheVariants.{Coded}
use Rattle.g9932.proofs.Accepted.{Accepted, accepted_tables}
use Rattle.g9932.proofs.Packed.{length_frame}
use Rattle.g9932.proofs.PointLists.{points_both, points_xs, points_ys}
use Rattle.g9932.proofs.Search.{first_found}
use Rattle.g9932.proofs.Sent.{length_classes}
use Rattle.g9932.proofs.Symbols.{write_monitored}
use Rattle.guarantees.specs.Words.{AcceptedTables, AcceptedFrame, ValidRegister, RightLength, Ready, non_zero, turned, WrittenSymbol, TurnedSymbol, is_read, by_readings, full_way}
use Rattle.guarantees.proofs.ClipAnswers as ClipAnswers
use Rattle.guarantees.proofs.HalfTurn.{points_turned, turned_read, half-turn-monitored, half_turn_odd, half_turn_even}
use Rattle.guarantees.proofs.RoundTrip.{length_written, packed_frame, packed_points, encoded_xs, encoded_ys, exactly}

-- turned twice, points are as they were
pub turned_twice : (xs : List ℤ) → turned (turned xs) ≡ xs
turned_twice [] = refl
turned_twice (x ∷ xs) = ap₂ (λ (a : ℤ) (l : List ℤ). a ∷ l) (neg_ℤ-neg_ℤ x) (turned_twice xs)

monitored_class : (c : Class) → is_monitored c ≡ true → c ≡ Monitored
monitored_class Monitored e = refl
monitored_class (Data n) e = let z : ◌≡◌ {A = ℕ} 0 1 = cc in absurd (omega arith)
monitored_class Silent e = let z : ◌≡◌ {A = ℕ} 0 1 = cc in absurd (omega arith)

-- turned lists are turned points
turned_lists : (xs ys : List ℤ) → length xs ≡ length ys → points (turned xs) (turned ys) ≡ map negated (points xs ys)
turned_lists xs ys l = rw (points_xs xs ys l, points_ys xs ys l) at (points_turned (points xs ys))

straight_not_turned : ◌≡◌ {A = Clip} Straight Turned → ⊥
straight_not_turned e = let z : ◌≡◌ {A = ℕ} 1 2 = ap (λ (c : Clip). clip_number (Some c)) e in omega arith

-- ---- a written symbol

module _ (T : Tables) (ok : AcceptedTables T) (r : ℕ) (X Y : List ℤ) (w : WrittenSymbol T r X Y) where
  facts : Accepted T
  facts = accepted_tables T ok

  abbrev q : List Point
  q = written_points T r w.start w.frame

  pub written_right : RightLength T X Y
  written_right =
      record {
        xs_length = ap length w.xs_are ∙ length-map q (λ p. p.px) ∙ length_written T facts r w.start w.frame;
        ys_length = ap length w.ys_are ∙ length-map q (λ p. p.py) ∙ length_written T facts r w.start w.frame;
      }

  pub written_points_lem : points X Y ≡ q
  written_points_lem = rw (w.xs_are, w.ys_are) (points_both q)

  -- it is written from every start
  pub from_start : (start : ℕ) → start ≤ 7 → (f : List ℕ) × AcceptedFrame T start f × (written_points T r start f ≡ q)
  unfolding written_points
  from_start start small =
      let g = frame_bits w.start (size_of T) w.frame in
      let l = length_frame w.start (size_of T) w.frame w.frame_accepted.passes in
      (pack start g, packed_frame T start g l small, packed_points T start g l r)

  -- and has the point that the filler bits give at the first monitored tone
  pub written_filler : (k : ℕ) → first_monitored T ≡ Some k → get_or (points X Y) k origin ≡ filler_point T r k
  unfolding written_points
  written_filler k e =
      let found = first_found (λ j. is_monitored (get_or (classes_of T) j Silent)) (length T.tones) k e in
      ap (λ (l : List Point). get_or l k origin) written_points_lem
      ∙ write_monitored r (classes_of T) (sent_in T w.start w.frame) k (omega (arith, found.0, length_classes T)) (monitored_class (get_or (classes_of T) k Silent) found.1)

-- ---- what is told of one, and of one that is turned

module _ (T : Tables) (ok : AcceptedTables T) (r : ℕ) (X Y : List ℤ) where
  turned_right : TurnedSymbol T r X Y → RightLength T X Y
  turned_right s =
      let l = written_right T ok r s.xs s.ys s.written in
      record {
        xs_length = ap length s.xs_are ∙ length-map s.xs neg_ℤ ∙ l.xs_length;
        ys_length = ap length s.ys_are ∙ length-map s.ys neg_ℤ ∙ l.ys_length;
      }

  turned_points_lem : (s : TurnedSymbol T r X Y) → points X Y ≡ map negated (points s.xs s.ys)
  turned_points_lem s =
      let l = written_right T ok r s.xs s.ys s.written in
      ap₂ points s.xs_are s.ys_are ∙ turned_lists s.xs s.ys (l.xs_length ∙ sym l.ys_length)

  module _ (k : ℕ) (e : first_monitored T ≡ Some k) where
    is_straight : WrittenSymbol T r X Y → clip_of T (points X Y) r ≡ Straight
    is_straight w = (ClipAnswers.straight T (points X Y) r k e).1 (written_filler T ok r X Y w k e)

    is_turned : TurnedSymbol T r X Y → clip_of T (points X Y) r ≡ Turned
    is_turned s =
        (ClipAnswers.turned T (points X Y) r k e).1
        (ap (λ (l : List Point). get_or l k origin) (turned_points_lem s)
        ∙ get_or-map negated (points s.xs s.ys) k origin
        ∙ ap negated (written_filler T ok r s.xs s.ys s.written k e))

    module _ (valid : ValidRegister r) where
      pub check_written : WrittenSymbol T r X Y → clip_check T X Y r ≡ record { number = 0; place = 0; clip = Some Straight; register = r }
      check_written w = rw (← is_straight w) (ClipAnswers.done T ok X Y r (written_right T ok r X Y w) valid)

      pub check_turned : TurnedSymbol T r X Y → clip_check T X Y r ≡ record { number = 0; place = 0; clip = Some Turned; register = r }
      check_turned s = rw (← is_turned s) (ClipAnswers.done T ok X Y r (turned_right s) valid)

-- ---- both readings

module _ (T : Tables) (ok : AcceptedTables T) (m : T.mode ≡ Coded) (r : ℕ) (valid : ValidRegister r) (start : ℕ) (small : start ≤ 7) (f₀ : List ℕ)
    (fits : length f₀ ≡ bytes_for start (size_of T)) where
  abbrev number : List ℤ → List ℤ → ℕ
  number X Y = (read_at T X Y r start f₀).report.verdict.number

  ready : (X Y : List ℤ) → RightLength T X Y → Ready T r start X Y f₀
  ready X Y right = record { tables = ok; register = valid; lists = right; frame = fits }

  -- points that are read are a written symbol
  read_written : (X Y : List ℤ) → RightLength T X Y → number X Y ≡ 0 → WrittenSymbol T r X Y
  read_written X Y right z =
      let f = (exactly T r start X Y f₀ (ready X Y right) X Y right).0 z in
      record {
        start = start;
        frame = f.0;
        frame_accepted = f.1;
        xs_are = sym f.2 ∙ encoded_xs T r start X Y f₀ (ready X Y right) f.0 f.1;
        ys_are = sym f.3 ∙ encoded_ys T r start X Y f₀ (ready X Y right) f.0 f.1;
      }

  -- a written symbol is read, and turned it is what half a turn makes of it
  module _ (X Y : List ℤ) (w : WrittenSymbol T r X Y) where
    right : RightLength T X Y
    right = written_right T ok r X Y w

    here : (f : List ℕ) × AcceptedFrame T start f × (written_points T r start f ≡ q T ok r X Y w)
    here = from_start T ok r X Y w start small

    xs_are_lem : (encode_at T start here.0 r X Y).xs ≡ X
    xs_are_lem = encoded_xs T r start X Y f₀ (ready X Y right) here.0 here.1 ∙ ap (map (λ p. p.px)) here.2 ∙ sym w.xs_are

    ys_are_lem : (encode_at T start here.0 r X Y).ys ≡ Y
    ys_are_lem = encoded_ys T r start X Y f₀ (ready X Y right) here.0 here.1 ∙ ap (map (λ p. p.py)) here.2 ∙ sym w.ys_are

    is_read_lem : number X Y ≡ 0
    is_read_lem = (exactly T r start X Y f₀ (ready X Y right) X Y right).1 (here.0, here.1, xs_are_lem, ys_are_lem)

    turned_is : number (turned X) (turned Y) ≡ (turned_read T r start X Y f₀ (ready X Y right) here.0).report.verdict.number
    turned_is = ap₂ (λ (A B : List ℤ). number (turned A) (turned B)) (sym xs_are_lem) (sym ys_are_lem)

    turned_monitored : (k : ℕ) → first_monitored T ≡ Some k → number (turned X) (turned Y) ≡ 14
    turned_monitored k e = turned_is ∙ ap (λ (v : Verdict). v.number) (half-turn-monitored T r start X Y f₀ (ready X Y right) m here.0 here.1 k e)

    turned_odd : first_monitored T ≡ None → non_zero T % 2 ≡ 1 → number (turned X) (turned Y) ≡ 15
    turned_odd e n = turned_is ∙ ap (λ (v : Verdict). v.number) (half_turn_odd T r start X Y f₀ (ready X Y right) m here.0 here.1 e n)

    turned_even : first_monitored T ≡ None → non_zero T % 2 ≡ 0 → number (turned X) (turned Y) ≡ 0
    turned_even e n = turned_is ∙ (half_turn_even T r start X Y f₀ (ready X Y right) m here.0 here.1 e n).0

  -- the full way of a written symbol and of a turned one, by the reading of the first with all signs changed
  way_written : (X Y : List ℤ) (n : ℕ) → WrittenSymbol T r X Y → number (turned X) (turned Y) ≡ n → full_way T X Y r start f₀ ≡ by_readings true (eqb n 0)
  way_written X Y n w e = rw (is_read_lem X Y w, e)

  way_turned : (X Y : List ℤ) (n : ℕ) (s : TurnedSymbol T r X Y) → number (turned s.xs) (turned s.ys) ≡ n → full_way T X Y r start f₀ ≡ by_readings (eqb n 0) true
  way_turned X Y n s e =
      let x : turned X ≡ s.xs = ap turned s.xs_are ∙ turned_twice s.xs in
      let y : turned Y ≡ s.ys = ap turned s.ys_are ∙ turned_twice s.ys in
      let first : number X Y ≡ n = ap₂ number s.xs_are s.ys_are ∙ e in
      let second : number (turned X) (turned Y) ≡ 0 = ap₂ number x y ∙ is_read_lem s.xs s.ys s.written in
      rw (first, second)

  -- ---- no tone is monitored

  module _ (none : first_monitored T ≡ None) (X Y : List ℤ) where
    pub even_way : non_zero T % 2 ≡ 0 → WrittenSymbol T r X Y ⊎ TurnedSymbol T r X Y → full_way T X Y r start f₀ ≡ CannotTell
    even_way n =
        ⊎_elim
        (λ w. way_written X Y 0 w (turned_even X Y w none n))
        (λ s. way_turned X Y 0 s (turned_even s.xs s.ys s.written none n))

    pub odd_straight : non_zero T % 2 ≡ 1 → WrittenSymbol T r X Y → full_way T X Y r start f₀ ≡ Straight
    odd_straight n w = way_written X Y 15 w (turned_odd X Y w none n)

    pub odd_turned : non_zero T % 2 ≡ 1 → TurnedSymbol T r X Y → full_way T X Y r start f₀ ≡ Turned
    odd_turned n s = way_turned X Y 15 s (turned_odd s.xs s.ys s.written none n)

  -- ---- some tone is monitored

  module _ (k : ℕ) (e : first_monitored T ≡ Some k) (X Y : List ℤ) where
    module _ (symbol : WrittenSymbol T r X Y ⊎ TurnedSymbol T r X Y) where
      pub full_way_lem : clip_of T (points X Y) r ≡ full_way T X Y r start f₀
      full_way_lem =
          ⊎_elim
          (λ w. is_straight T ok r X Y k e w ∙ sym (way_written X Y 14 w (turned_monitored X Y w k e)))
          (λ s. is_turned T ok r X Y k e s ∙ sym (way_turned X Y 14 s (turned_monitored s.xs s.ys s.written k e)))
          symbol

      pub check_full_way : clip_check T X Y r ≡ record { number = 0; place = 0; clip = Some (full_way T X Y r start f₀); register = r }
      check_full_way =
          let l = ⊎_elim (λ w. written_right T ok r X Y w) (λ s. turned_right T ok r X Y s) symbol in
          rw (← full_way_lem) (ClipAnswers.done T ok X Y r l valid)

    module _ (right : RightLength T X Y) where
      right_turned : RightLength T (turned X) (turned Y)
      right_turned = record { xs_length = length-map X neg_ℤ ∙ right.xs_length; ys_length = length-map Y neg_ℤ ∙ right.ys_length }

      read_turned : number (turned X) (turned Y) ≡ 0 → TurnedSymbol T r X Y
      read_turned z =
          record {
            xs = turned X;
            ys = turned Y;
            written = read_written (turned X) (turned Y) right_turned z;
            xs_are = sym (turned_twice X);
            ys_are = sym (turned_twice Y);
          }

      pub never_both : (number X Y ≡ 0) × (number (turned X) (turned Y) ≡ 0) → ⊥
      never_both h = omega (arith, h.1, turned_monitored X Y (read_written X Y right h.0) k e)

      -- which points they are, where either reading is accepted
      read_symbol : (a b : Bool) → is_read T X Y r start f₀ ≡ a → is_read T (turned X) (turned Y) r start f₀ ≡ b → by_readings a b ≢ Neither
          → WrittenSymbol T r X Y ⊎ TurnedSymbol T r X Y
      read_symbol true b c d n = inl (read_written X Y right (eqb-true (number X Y) 0 c))
      read_symbol false true c d n = inr (read_turned (eqb-true (number (turned X) (turned Y)) 0 d))
      read_symbol false false c d n = absurd (n refl)

      pub agrees : full_way T X Y r start f₀ ≢ Neither → clip_of T (points X Y) r ≡ full_way T X Y r start f₀
      agrees h = full_way_lem (read_symbol (is_read T X Y r start f₀) (is_read T (turned X) (turned Y) r start f₀) refl refl h)

    -- straight and turned, each exactly when its reading is accepted
    module _ (symbol : WrittenSymbol T r X Y ⊎ TurnedSymbol T r X Y) where
      pub straight_exactly : (clip_of T (points X Y) r ≡ Straight) ↔ (number X Y ≡ 0)
      straight_exactly = (
        λ z. ⊎_elim (λ w. is_read_lem X Y w) (λ s. absurd (straight_not_turned (sym z ∙ is_turned T ok r X Y k e s))) symbol,
        λ z. ⊎_elim (λ w. is_straight T ok r X Y k e w) (λ s. is_straight T ok r X Y k e (read_written X Y (turned_right T ok r X Y s) z)) symbol,
      )

      pub turned_exactly : (clip_of T (points X Y) r ≡ Turned) ↔ (number (turned X) (turned Y) ≡ 0)
      turned_exactly = (
        λ z. ⊎_elim (λ w. absurd (straight_not_turned (sym (is_straight T ok r X Y k e w) ∙ z))) (λ s. second s) symbol,
        λ z. ⊎_elim (λ w. is_turned T ok r X Y k e (read_turned (written_right T ok r X Y w) z)) (λ s. is_turned T ok r X Y k e s) symbol,
      )
        where
          second : (s : TurnedSymbol T r X Y) → number (turned X) (turned Y) ≡ 0
          second s =
              ap₂ number (ap turned s.xs_are ∙ turned_twice s.xs) (ap turned s.ys_are ∙ turned_twice s.ys) ∙ is_read_lem s.xs s.ys s.written
