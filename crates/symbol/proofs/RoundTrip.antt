-- What a user sees of an operation that encodes and one that reads, by their promises alone. The theorems are marked `pub`:
-- `encode_done`, `read_exactly`, `read_back`, `turned_read_lem` with `turned_monitored` and `turned_odd`, `quarter_refused`, and
-- `same_lists`.
use Rattle.std.specs.Prelude.{Result, Ok, Err, None, Some}
use Prim.Native.Nat.{ℕ, ◌%◌, ◌<◌}
use mathlib.Core.Bool.{false, cond, true≢false}
use mathlib.Core.List.{List, map}
use mathlib.Core.Logic.{◌↔◌, ◌≢◌, ◌⊎◌, ⊎_elim}
use mathlib.Core.Path.{◌≡◌, refl, sym, ap, ap₂, ◌∙◌, subst}
use lib.Dec.{eqb}
use lib.IntN.{ℤ}
use lib.ListN.{length, get_or}
use Rattle.g9932.specs.Sizes.{Tables, bytes_for}
use Rattle.g9932.specs.Refusals.{refused, table_verdict}
use Rattle.g9932.specs.Filler.{register_after}
use Rattle.g9932.specs.Symbol.{classes_of, pairs_in, size_of, written_points, first_monitored}
use Rattle.g9932.specs.Answers.{done, refused_with, on_done, Report, report_of, report_by, encode_verdict, Encoded, encode_at, Encodes, Read, read_at, Reads, encode_inputs}
use Rattle.g9932.specs.declared.Done.{Done}
use Rattle.g9932.specs.declared.Refused.{Refused}
use Rattle.g9932.specs.declared.Mode.TheVariants.{Coded}
use Rattle.g9932.specs.declared.Refusal.{Refusal}
use Rattle.g9932.proofs.Packed.{frame_length_lem}
use Rattle.g9932.proofs.Verdicts.{number_some, test_none, and_none}
use Rattle.guarantees.specs.Words.{AcceptedFrame, RightLength, Ready, non_zero, turned, quarter_verdict}
use Rattle.guarantees.proofs.Guarantees as Guarantees
use Rattle.guarantees.proofs.HalfTurn as HalfTurn
use Rattle.symbol.proofs.Answers.{no_room}

-- an answer that reports as one that is done is that one
same_done : (a : Result Done Refused) (l s : ℕ) → report_of a ≡ report_of (Ok (done l s)) → a ≡ Ok (done l s)
same_done (Ok d) l s e = ap₂ (λ (k n : ℕ). Ok (done k n)) (ap (λ (p : Report). p.verdict.size) e) (ap (λ (p : Report). p.register) e)
same_done (Err x) l s e = absurd (true≢false (sym (ap (λ (p : Report). eqb p.verdict.number 0) e) ∙ number_some x.refusal))

-- ---- everything in order

-- With accepted tables, a valid register, any start, the same in every call, and lent buffers xs, ys and f₀ of exact lengths:
module _ (T : Tables) (r start : ℕ) (xs ys : List ℤ) (f₀ : List ℕ) (ready : Ready T r start xs ys f₀) (X Y : List ℤ) where
  -- An accepted frame is encoded: the answer is DONE with L and the register after the draws.
  pub encode_done : (f : List ℕ) (a : Result Done Refused) → AcceptedFrame T start f → Encodes T start f r xs ys a X Y
      → a ≡ Ok (done (size_of T) (register_after r (classes_of T)))
  encode_done f a ok e = same_done a _ _ (e.answer ∙ ap (λ (x : Encoded). x.report) (Guarantees.encoded T r start xs ys f₀ ready f ok))

  as_answered : (f : List ℕ) → AcceptedFrame T start f → (encode_at T start f r xs ys).xs ≡ X → (encode_at T start f r xs ys).ys ≡ Y
      → read_at T X Y r start f₀ ≡ record { report = (encode_at T start f r xs ys).report; frame = f }
  as_answered f ok x y =
      ap₂ (λ (A B : List ℤ). read_at T A B r start f₀) (sym x) (sym y) ∙ Guarantees.answered T r start xs ys f₀ ready f ok

  -- Some operation reads X and Y; it answers a and leaves g in the buffer.
  module _ (a : Result Done Refused) (g : List ℕ) (h : Reads T X Y r start f₀ a g) where
    only : RightLength T X Y → (report_of a).verdict.number ≡ 0 → AcceptedFrame T start g × Encodes T start g r xs ys a X Y
    only right z =
        let w = (Guarantees.exactly T r start xs ys f₀ ready X Y right).0 (ap (λ (p : Report). p.verdict.number) (sym h.answer) ∙ z) in
        let is = as_answered w.0 w.1 w.2 w.3 in
        subst (λ (f : List ℕ). AcceptedFrame T start f × Encodes T start f r xs ys a X Y) (sym (h.frame_holds ∙ ap (λ (x : Read). x.frame) is)) (
          w.1,
          record { answer = h.answer ∙ ap (λ (x : Read). x.report) is; xs_hold = sym w.2; ys_hold = sym w.3 },
        )

    if : (f : List ℕ) (b : Result Done Refused) → AcceptedFrame T start f → Encodes T start f r xs ys b X Y
        → (a ≡ Ok (done (size_of T) (register_after r (classes_of T)))) × (g ≡ f)
    if f b ok e =
        let is = as_answered f ok (sym e.xs_hold) (sym e.ys_hold) in (
          encode_done f a ok (record { answer = h.answer ∙ ap (λ (x : Read). x.report) is; xs_hold = e.xs_hold; ys_hold = e.ys_hold }),
          h.frame_holds ∙ ap (λ (x : Read). x.frame) is,
        )

    -- Points of the right length are read exactly when some accepted frame gives them: if the answer is DONE, g is such a frame;
    -- and if f is such a frame, the answer is DONE with L and the register after the draws, and g is f.
    pub read_exactly : RightLength T X Y
        → ((l s : ℕ) → a ≡ Ok (done l s) → AcceptedFrame T start g × Encodes T start g r xs ys a X Y)
        × ((f : List ℕ) (b : Result Done Refused) → AcceptedFrame T start f → Encodes T start f r xs ys b X Y
        → (a ≡ Ok (done (size_of T) (register_after r (classes_of T)))) × (g ≡ f))
    read_exactly right = (λ l s d. only right (ap (λ (x : Result Done Refused). (report_of x).verdict.number) d), if)

-- ---- frames that were encoded

-- Some operation encoded the bytes f, from a start, with register r, answered L and a register s, and left X and Y in its lists.
module _ (T : Tables) (start : ℕ) (f : List ℕ) (r : ℕ) (xs ys : List ℤ) (l s : ℕ) (X Y : List ℤ)
    (bytes : (k : ℕ) → k < length f → get_or f k 0 < 256) (e : Encodes T start f r xs ys (Ok (done l s)) X Y) where
  -- nothing was refused, so tables, register, lists and frame are as the guarantees suppose, L is that of the tables, and s is the
  -- register after the draws
  none : ((table_verdict T).number ≡ 0) × ((encode_inputs start (size_of T) (length T.tones) (length xs) (length ys) f r).number ≡ 0)
  unfolding encode_verdict encode_inputs report_by
  none = and_none (table_verdict T) _ (ap (λ (p : Report). p.verdict.number) (sym e.answer))

  ok : AcceptedFrame T start f
  unfolding encode_inputs
  ok = record { bytes = bytes; passes = (test_none 10 _ _ (test_none 9 _ _ none.1).1).0 }

  sized : (f₀ : List ℕ) → length f₀ ≡ bytes_for start (size_of T) → Ready T r start xs ys f₀
  unfolding encode_inputs
  sized f₀ n =
      let a = test_none 9 _ _ none.1 in
      let p = no_room (length xs) (length ys) (length T.tones) a.0 in
      record {
        tables = none.0;
        register = (test_none 11 _ _ (test_none 10 _ _ a.1).1).0;
        lists = record { xs_length = p.0; ys_length = p.1 };
        frame = n;
      }

  own : Ready T r start xs ys f
  own = sized f (frame_length_lem start (size_of T) f ok.passes)

  answer_is : ◌≡◌ {A = Result Done Refused} (Ok (done l s)) (Ok (done (size_of T) (register_after r (classes_of T))))
  answer_is = encode_done T r start xs ys f own X Y f (Ok (done l s)) ok e

  lists : (X ≡ map (λ p. p.px) (written_points T r start f)) × (Y ≡ map (λ p. p.py) (written_points T r start f))
  lists =
      let is = Guarantees.encoded T r start xs ys f own f ok in
      (e.xs_hold ∙ ap (λ (x : Encoded). x.xs) is, e.ys_hold ∙ ap (λ (x : Encoded). x.ys) is)

  frame_back : (f₀ : List ℕ) → length f₀ ≡ bytes_for start (size_of T) → (read_at T X Y r start f₀).frame ≡ f
  frame_back f₀ n = ap (λ (x : Read). x.frame) (as_answered T r start xs ys f₀ (sized f₀ n) X Y f ok (sym e.xs_hold) (sym e.ys_hold))

  -- Some operation reads with the same register and start and a buffer f₀ of as many bytes as L bits from that start take; it answers a and
  -- leaves g there.
  module _ (f₀ : List ℕ) (fits : length f₀ ≡ bytes_for start l) (a : Result Done Refused) (g : List ℕ) where
    ready : Ready T r start xs ys f₀
    ready = sized f₀ (fits ∙ ap (λ (x : Result Done Refused). bytes_for start (report_of x).verdict.size) answer_is)

    -- Of the lists as they were left it answers the same L and register, and the buffer holds f.
    pub read_back : Reads T X Y r start f₀ a g → (a ≡ Ok (done l s)) × (g ≡ f)
    read_back h = let w = if T r start xs ys f₀ ready X Y a g h f (Ok (done l s)) ok e in (w.0 ∙ sym answer_is, w.1)

    -- where reading is refused, the answer is a refusal, with the register and the buffer as they came
    unchanged : (A B : List ℤ) → Reads T A B r start f₀ a g → (read_at T A B r start f₀).report.verdict.number ≢ 0
        → (x : Refusal) × (a ≡ Err (refused_with x r)) × (g ≡ f₀)
    unchanged A B h some = go a h.answer
      where
        kept : ((read_at T A B r start f₀).report.register ≡ r) × ((read_at T A B r start f₀).frame ≡ f₀) × ((read_at T A B r start f₀).report.verdict.size ≡ 0)
        kept = Guarantees.refused_reading T A B r start f₀ some

        go : (b : Result Done Refused) → report_of b ≡ (read_at T A B r start f₀).report → (x : Refusal) × (b ≡ Err (refused_with x r)) × (g ≡ f₀)
        go (Ok d) is = absurd (some (ap (λ (p : Report). p.verdict.number) (sym is)))
        go (Err x) is = (x.refusal, ap (λ (n : ℕ). Err (refused_with x.refusal n)) (ap (λ (p : Report). p.register) is ∙ kept.0), h.frame_holds ∙ kept.1)

    -- Coded, of the lists turned by half a turn:
    module _ (coded : T.mode ≡ Coded) (h : Reads T (turned X) (turned Y) r start f₀ a g) where
      here : Reads T (turned (encode_at T start f r xs ys).xs) (turned (encode_at T start f r xs ys).ys) r start f₀ a g
      here = rw (e.xs_hold, e.ys_hold) at h

      abbrev read : Read
      read = read_at T (turned (encode_at T start f r xs ys).xs) (turned (encode_at T start f r xs ys).ys) r start f₀

      number_is : (report_of a).verdict.number ≡ read.report.verdict.number
      number_is = ap (λ (p : Report). p.verdict.number) here.answer

      even : (a ≡ Ok (done l s)) × AcceptedFrame T start g × (g ≢ f) → (first_monitored T ≡ None) × (non_zero T % 2 ≡ 0)
      even w =
          (Guarantees.half-turn T r start xs ys f₀ ready coded f ok).0 (
            sym number_is ∙ ap (λ (x : Result Done Refused). (report_of x).verdict.number) w.0,
            subst (λ (z : List ℕ). AcceptedFrame T start z) here.frame_holds w.1,
            λ same. w.2 (here.frame_holds ∙ same),
          )

      another : (first_monitored T ≡ None) × (non_zero T % 2 ≡ 0) → (a ≡ Ok (done l s)) × AcceptedFrame T start g × (g ≢ f)
      another n =
          let w = (Guarantees.half-turn T r start xs ys f₀ ready coded f ok).1 n in
          let q = only T r start xs ys f₀ ready _ _ a g here (HalfTurn.right T r start xs ys f₀ ready coded f ok) (number_is ∙ w.0) in
          ((if T r start xs ys f₀ ready _ _ a g here g a q.0 q.1).0 ∙ sym answer_is, q.0, λ same. w.2 (sym here.frame_holds ∙ same))

      -- it is read, as another frame, exactly when no tone is monitored and the count of non-zero re-ordered entries is even;
      -- otherwise it is refused, with the register and the buffer as they came:
      pub turned_read_lem : (((a ≡ Ok (done l s)) × AcceptedFrame T start g × (g ≢ f)) ↔ ((first_monitored T ≡ None) × (non_zero T % 2 ≡ 0)))
          × (((first_monitored T ≡ None) × (non_zero T % 2 ≡ 0) → ⊥) → (x : Refusal) × (a ≡ Err (refused_with x r)) × (g ≡ f₀))
      turned_read_lem = ((even, another), λ other. unchanged _ _ here (Guarantees.half_turn_refused T r start xs ys f₀ ready coded f ok other))

      as_refused : (n k : ℕ) → eqb n 0 ≡ false → read.report.verdict ≡ refused n k
          → (report_of a ≡ record { verdict = refused n k; register = r }) × (g ≡ f₀)
      unfolding report_by on_done
      as_refused n k some v = (here.answer ∙ rw (v, some), here.frame_holds ∙ rw (v, some))

      -- with MONITOR at the first monitored tone,
      pub turned_monitored : (k : ℕ) → first_monitored T ≡ Some k
          → (report_of a ≡ record { verdict = refused 14 k; register = r }) × (g ≡ f₀)
      turned_monitored k m = as_refused 14 k refl (Guarantees.half-turn-monitored T r start xs ys f₀ ready coded f ok k m)

      -- and where there is none, with TRELLIS at pair 1 where P is 3, else at pair 2.
      pub turned_odd : first_monitored T ≡ None → non_zero T % 2 ≡ 1
          → (report_of a ≡ record { verdict = refused 15 (cond (eqb (length (pairs_in T)) 3) 1 2); register = r }) × (g ≡ f₀)
      turned_odd m n =
          as_refused 15 (cond (eqb (length (pairs_in T)) 3) 1 2) refl (Guarantees.half_turn_odd T r start xs ys f₀ ready coded f ok m n)

    -- Coded, of the lists turned by a quarter, (−Y, X) or (Y, −X) for every (X, Y), it is always refused, with the register and the buffer as
    -- they came: OFFGRID at the first 1-bit tone, or else MONITOR at the first monitored one, or else TRELLIS at pair 0 or 1
    -- (`quarter_refusals` on the page of guarantees says which).
    pub quarter_refused : T.mode ≡ Coded → Reads T (turned Y) X r start f₀ a g ⊎ Reads T Y (turned X) r start f₀ a g
        → (report_of a ≡ record { verdict = quarter_verdict T; register = r }) × (x : Refusal) × (a ≡ Err (refused_with x r)) × (g ≡ f₀)
    quarter_refused coded = ⊎_elim (answer (turned Y) X both.0 no.0) (answer Y (turned X) both.1 no.1)
      where
        both : (read_at T (turned Y) X r start f₀ ≡ record { report = record { verdict = quarter_verdict T; register = r }; frame = f₀ })
            × (read_at T Y (turned X) r start f₀ ≡ record { report = record { verdict = quarter_verdict T; register = r }; frame = f₀ })
        both = rw (e.xs_hold, e.ys_hold) (Guarantees.quarter_turn T r start xs ys f₀ ready coded f ok)

        no : ((read_at T (turned Y) X r start f₀).report.verdict.number ≢ 0) × ((read_at T Y (turned X) r start f₀).report.verdict.number ≢ 0)
        no = rw (e.xs_hold, e.ys_hold) (Guarantees.quarter_turn_refused T r start xs ys f₀ ready coded f ok)

        answer : (A B : List ℤ) → read_at T A B r start f₀ ≡ record { report = record { verdict = quarter_verdict T; register = r }; frame = f₀ }
            → (read_at T A B r start f₀).report.verdict.number ≢ 0 → Reads T A B r start f₀ a g
            → (report_of a ≡ record { verdict = quarter_verdict T; register = r }) × (x : Refusal) × (a ≡ Err (refused_with x r)) × (g ≡ f₀)
        answer A B is some h = let u = unchanged A B h some in (h.answer ∙ ap (λ (x : Read). x.report) is, u.0, u.1, u.2)

-- Two accepted frames encoded with the same tables, register and start, in any lent lists, give the same X and Y exactly when they are
-- the same frame.
pub same_lists : (T : Tables) (r start : ℕ) (f f' : List ℕ) (xs ys xs' ys' : List ℤ) (l s l' s' : ℕ) (X Y X' Y' : List ℤ)
    → AcceptedFrame T start f → Encodes T start f r xs ys (Ok (done l s)) X Y → AcceptedFrame T start f' → Encodes T start f' r xs' ys' (Ok (done l' s')) X' Y'
    → ((X ≡ X') × (Y ≡ Y')) ↔ (f ≡ f')
same_lists T r start f f' xs ys xs' ys' l s l' s' X Y X' Y' o e o' e' =
    let n = frame_length_lem start (size_of T) f o.passes in
    let p = lists T start f r xs ys l s X Y o.bytes e in
    let q = lists T start f' r xs' ys' l' s' X' Y' o'.bytes e' in (
      λ h. sym (frame_back T start f r xs ys l s X Y o.bytes e f n) ∙ ap₂ (λ (A B : List ℤ). (read_at T A B r start f).frame) h.0 h.1
          ∙ frame_back T start f' r xs' ys' l' s' X' Y' o'.bytes e' f n,
      λ h. (
        p.0 ∙ ap (λ (z : List ℕ). map (λ p. p.px) (written_points T r start z)) h ∙ sym q.0,
        p.1 ∙ ap (λ (z : List ℕ). map (λ p. p.py) (written_points T r start z)) h ∙ sym q.1,
      ),
    )
