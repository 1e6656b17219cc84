-- Nearest reading from the answers of planning and of checking the inputs: refused by the tables, by the inputs or by a coordinate, or a
-- nearest frame.
use Rattle.std.specs.Prelude.{None, Some, Ok, Err}
use Prim.Native.Nat.{ℕ, ◌*◌, ◌≤◌}
use mathlib.Core.Bool.{Bool, true, false, not, ◌||◌, true≢false}
use mathlib.Core.List.{List}
use mathlib.Core.Path.{◌≡◌, refl, sym, ap, ap₂, subst, ◌∙◌}
use native.Mathlib.Omega.{arith}
use borrow.Author.Tests.{eq-eqb, eqb-true}
use lib.Dec.{eqb}
use lib.IntN.{ℤ}
use lib.ListN.{length}
use Rattle.g9932.proofs.Accepted.{accepted_tables}
use Rattle.g9932.proofs.Identities.{or-false}
use Rattle.g9932.proofs.Sent.{length_classes}
use Rattle.g9932.proofs.Verdicts.{test_none, number_none, number_some, found_here, found_past, and_refused, and_past, and_assoc, report_refused, report_done}
use Rattle.g9932.specs.Answers.{verdict_of, done, refused_with, report_of}
use Rattle.g9932.specs.Bits.{first}
use Rattle.g9932.specs.Filler.{after_draws, register_after}
use Rattle.g9932.specs.Nearest.{range_test, work_bytes, nearest_inputs, range_verdict, nearest_verdict, ReadsNearest}
use Rattle.g9932.specs.Refusals.{number_of, Verdict, and_then, accepted, room_test, table_verdict}
use Rattle.g9932.specs.Sizes.{Tables, points, bytes_for, most_tones, most_held}
use Rattle.g9932.specs.Symbol.{classes_of, size_of}
use Rattle.g9932.specs.declared.Mode.{Mode}
use Rattle.g9932.specs.declared.Mode.TheVariants.{Uncoded, Coded}
use Rattle.g9932.specs.declared.Nearest.{Nearest}
use Rattle.g9932.specs.declared.Refusal.{Refusal}
use Rattle.g9932.specs.declared.Refusal.TheVariants.{Range}
use Rattle.passes.proofs.FillerPlaces.{register_places}
use Rattle.passes.proofs.PlanLabels.{where_inside, plan_placed}
use Rattle.passes.specs.ReadSymbol.{HeldFits}
use Rattle.plan.specs.Classes.{PlanOf}
use Rattle.plan.specs.Plan.{is_drawing, least_own, PlanIs}
use Rattle.plan.specs.declared.Plan.{Plan}
use Rattle.symbol.proofs.Answers.{inputs_read}
use Rattle.symbol.proofs.PlannedInputs.{accepts, inputs_pass, tones_fit}
use Rattle.symbol.proofs.TablePlan.{the_plan, held_fits_lem}
use Rattle.decisions.specs.Entries.{Decidable}
use Rattle.nearest.specs.Planned.{work_for, PlannedBy, ModeNeeds, DecideSupposes, NearestSupposes, NearestBy, ReadsPlanned}
use Rattle.nearest.proofs.Laid.{layouts_length_lem, tone_layouts, laid_out}
use Rattle.nearest.proofs.NearestInputs.{work_fits}
use Rattle.nearest.proofs.NearestPlan.{decidable, uncoded_own, work_pairs, no_pairs, decided_within, bits_nearest_lem}

-- ---- the whole answer

module _ (T : Tables) (xs ys : List ℤ) (r start : ℕ) (f work : List ℕ) where
  abbrev verdict : Verdict
  verdict = nearest_verdict T xs ys r start (length f) (length work)

  abbrev inputs : Verdict
  inputs = nearest_inputs start (size_of T) (length T.tones) (work_bytes T) (length xs) (length ys) (length f) (length work) r

  whole : verdict ≡ and_then (and_then (table_verdict T) inputs) (range_verdict T (points xs ys))
  unfolding nearest_verdict
  whole = and_assoc (table_verdict T) inputs (range_verdict T (points xs ys))

  unchanged : (x : Refusal) → verdict_of (Err x) ≡ verdict → ReadsNearest T xs ys r start f work (Err (refused_with x r)) f work
  unchanged x e =
      record {
        answer = report_refused x r _ e;
        nearest = λ z. absurd (true≢false (sym (eq-eqb (number_of x) 0 (ap (λ (v : Verdict). v.number) e ∙ z)) ∙ number_some x));
        frame_kept = λ _. refl;
        work_kept = λ _. refl;
        work_length = refl;
      }

  -- what refuses the tables or the inputs refuses
  pub nearest_refused : (x : Refusal) → verdict_of (Err x) ≡ and_then (table_verdict T) inputs → ReadsNearest T xs ys r start f work (Err (refused_with x r)) f work
  nearest_refused x e = unchanged x (and_refused x (range_verdict T (points xs ys)) e ∙ sym whole)

  module _ (pass : (and_then (table_verdict T) inputs).number ≡ 0) where
    pub range_refuses : (i : ℕ) → Some i ≡ first (range_test (points xs ys)) (length T.tones)
        → ReadsNearest T xs ys r start f work (Err (refused_with (Range (record { 0 = i })) r)) f work
    unfolding range_verdict
    range_refuses i q = unchanged _ (and_past (and_then (table_verdict T) inputs) pass (found_here 23 _ (sym q)) ∙ sym whole)

    pub nearest_done : (a : Nearest) {after work_after : List ℕ} → first (range_test (points xs ys)) (length T.tones) ≡ None → length work_after ≡ length work
        → ReadsPlanned T (points xs ys) r start a after → ReadsNearest T xs ys r start f work (Ok a) after work_after
    unfolding range_verdict
    nearest_done a q n d =
        let v : accepted (size_of T) ≡ verdict = and_past (and_then (table_verdict T) inputs) pass (found_past 23 q refl) ∙ sym whole in
        record {
          answer = ap₂ (λ (l s : ℕ). report_of (Ok (done l s))) d.size_is d.register_is ∙ report_done (size_of T) r (register_after r (classes_of T)) v;
          nearest = λ _. d.nearest;
          frame_kept = λ h. absurd (h (number_none v));
          work_kept = λ h. absurd (h (number_none v));
          work_length = n;
        }

-- ---- from the plan

-- 16 bytes a coded pair, by the plan
pub work_is : (T : Tables) → (table_verdict T).number ≡ 0 → (p : Plan) → PlanIs T p → work_for T.mode (length p.entries.bits.now) ≡ work_bytes T
work_is T ok p is = go T.mode refl
  where
    go : (m : Mode) → T.mode ≡ m → work_for m (length p.entries.bits.now) ≡ work_bytes T
    go Uncoded e = omega (arith, no_pairs T ok p is e)
    go Coded e = omega (arith, work_pairs T ok p is e)

module _ {T : Tables} {p : Plan} {xs ys : List ℤ} {r : ℕ} {f : List ℕ} {start : ℕ} {work : List ℕ} (h : PlannedBy T p xs ys r f start work) where
  ok : (table_verdict T).number ≡ 0
  ok = accepts h.plans

  pass : (and_then (table_verdict T) (inputs T xs ys r start f work)).number ≡ 0
  pass = number_none h.plans.answer

  bytes : work_for T.mode (length p.entries.bits.now) ≡ work_bytes T
  bytes = work_is T ok p h.plans.made

  -- every list has its length
  work_length_lem : length work ≡ work_bytes T
  unfolding nearest_inputs
  work_length_lem =
      let t = (test_none 9 _ _ (inputs_pass h.plans)).0 in
      let w = or-false (room_test (length xs) (length T.tones) || room_test (length ys) (length T.tones) || room_test (length f) (bytes_for start (size_of T))) _ t in
      go (eqb (length work) (work_bytes T)) refl w.1
    where
      go : (b : Bool) → eqb (length work) (work_bytes T) ≡ b → not b ≡ false → length work ≡ work_bytes T
      go true e n = eqb-true _ _ e
      go false e n = absurd (true≢false n)

  others : (((length xs ≡ length T.tones) × (length ys ≡ length T.tones)) × (length f ≡ bytes_for start (size_of T))) × (start ≤ 7)
  others =
      inputs_read start (size_of T) (length T.tones) (length xs) (length ys) (length f) r
      (ap (λ (v : Verdict). v.number) (work_fits start (size_of T) (length T.tones) (work_bytes T) (length xs) (length ys) (length f) (length work) r work_length_lem) ∙ inputs_pass h.plans)

  pub points_few : length xs ≤ most_tones
  points_few = omega (arith, others.0.0.0, tones_fit h.plans)

  pub same_points : length ys ≡ length xs
  same_points = others.0.0.1 ∙ sym others.0.0.0

  pub range_refused : {k : ℕ} → Some k ≡ first (range_test (points xs ys)) (length xs) → ReadsNearest T xs ys r start f work (Err (refused_with (Range (record { 0 = k })) r)) f work
  range_refused {k} e = range_refuses T xs ys r start f work pass k (e ∙ ap (first (range_test (points xs ys))) others.0.0.0)

  module _ (range : first (range_test (points xs ys)) (length xs) ≡ None) where
    in_range : first (range_test (points xs ys)) (length T.tones) ≡ None
    in_range = ap (first (range_test (points xs ys))) (sym others.0.0.0) ∙ range

    abbrev es : List ℕ
    es = p.entries.bits.now

    abbrev ps : List ℕ
    ps = p.entries.places.now

    abbrev ds : List ℕ
    ds = p.drawing.now

    few : length es ≤ most_tones
    few = omega (arith, h.plans.made.entries_most, tones_fit h.plans)

    pub read_done : {answer : Nearest} {after work_after : List ℕ} → length work_after ≡ length work → ReadsPlanned T (points xs ys) r start answer after
        → ReadsNearest T xs ys r start f work (Ok answer) after work_after
    read_done {answer} m d = nearest_done T xs ys r start f work pass answer in_range m d

    module _ (labels held : List ℕ) (n : length labels ≡ length xs) (nh : length held ≡ most_held) where
      abbrev lays : List ℕ
      lays = p.layouts.now

      the : PlanOf (classes_of T) p.shared_from.0 es ps ds lays
      the = the_plan T ok p h.plans.made

      d : Decidable (least_own T.mode) p.shared_from.0 es ps xs ys
      d = decidable T ok p h.plans.made xs ys others.0.0.0 others.0.0.1 in_range

      by_mode_lem : (m : Mode) → T.mode ≡ m → ModeNeeds m p.shared_from.0 es xs work
      by_mode_lem Uncoded e = uncoded_own T ok p h.plans.made e ∙ sym others.0.0.0
      by_mode_lem Coded e =
          let fits = subst (λ (k : Mode). HeldFits k start es (length held)) e (held_fits_lem T ok p h.plans.made others.1 held nh) in
          (fits.1, work_length_lem ∙ sym bytes ∙ ap (λ (k : Mode). work_for k (length es)) e)

      can_decide : DecideSupposes T.mode p.shared_from.0 es ps lays xs ys work labels
      can_decide =
          let nx = others.0.0.0 in
          let nl : length lays ≡ length xs = layouts_length_lem the ∙ length_classes T ∙ sym nx in
          record {
            tones =
                record {
                  layouts_length = nl;
                  ys_length = d.ys_length;
                  of_tones = λ i l. tone_layouts the i (omega (arith, l, nx, length_classes T));
                  x_in_range = d.x_in_range;
                  y_in_range = d.y_in_range;
                  few = points_few;
                };
            laid = laid_out the;
            decidable = d;
            many = few;
            labels_length = n;
            by_mode = by_mode_lem T.mode refl;
          }

      nearest_of_lem : NearestSupposes T T.mode p.shared_from.0 p.size es ps ds lays xs ys labels held f start work
      nearest_of_lem =
          let c = length_classes T in
          let n = n ∙ others.0.0.0 in
          record {
            decide = can_decide;
            filler =
                record {
                  below = λ k l.
                      let i = where_inside is_drawing 0 (classes_of T) k (rw the.drawing_are at l) in
                      rw the.drawing_are (omega (arith, i.1, n, c));
                };
            register_is = λ s. ap (λ (l : List ℕ). after_draws (2 * length l) s) the.drawing_are ∙ register_places (classes_of T) 0 s;
            placed = λ ls m. plan_placed the ls (m ∙ n ∙ sym c);
            start_most = others.1;
            held_fits = held_fits_lem T ok p h.plans.made others.1 held nh;
            held_length = nh;
            size_is = h.plans.made.size_is;
            size_most = (accepted_tables T ok).size_most;
            frame_length = others.0.1;
            within = λ ls k m e. decided_within T ok p h.plans.made xs ys others.0.0.0 others.0.0.1 in_range T.mode refl ls k e;
            bits_nearest = λ s ls k m e. bits_nearest_lem T ok p h.plans.made xs ys others.0.0.0 others.0.0.1 in_range T.mode refl s start others.1 ls k e;
          }

      pub nearest_by : NearestBy T p xs ys labels held f start work
      nearest_by = rw h.plans.made.mode_is nearest_of_lem
