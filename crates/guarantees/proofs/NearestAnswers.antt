-- What an operation that reads the nearest frame answers: on points that exact reading reads, the same; on a written symbol turned by half
-- a turn, always a frame.
use Prim.Native.Nat.{ℕ, ◌%◌, ◌≤◌, ◌<◌}
use mathlib.Core.Bool.{false}
use mathlib.Core.List.{List}
use mathlib.Core.Logic.{◌↔◌, ◌≢◌}
use mathlib.Core.Path.{◌≡◌, refl, sym, ap, ◌∙◌}
use native.Mathlib.Omega.{arith}
use borrow.Author.Tests.{ne_eqb}
use lib.IntN.{ℤ}
use lib.ListN.{length}
use Rattle.g9932.specs.Sizes.{Tables, Point, points}
use Rattle.g9932.specs.Refusals.{Verdict, accepted}
use Rattle.g9932.specs.Symbol.{size_of, sent_in, written_points}
use Rattle.g9932.specs.Answers.{Report, report_by, Encoded, encode_at, Read, read_at}
use Rattle.g9932.specs.Nearest.{NearestFrame, range_test, work_bytes, nearest_verdict, nearest_of, total_in, ReadsNearest}
use Rattle.g9932.specs.declared.Mode.TheVariants.{Coded}
use Rattle.g9932.specs.declared.Nearest.{Nearest}
use Rattle.g9932.specs.declared.Refused.{Refused}
use Rattle.std.specs.Prelude.{Result, Ok, Err}
use Rattle.g9932.proofs.Accepted.{Accepted, accepted_tables}
use Rattle.g9932.proofs.Distances.{written_range, opposite_range}
use Rattle.g9932.proofs.Packed.{start_most_lem}
use Rattle.g9932.proofs.Search.{first_all}
use Rattle.g9932.proofs.Sent.{length_classes}
use Rattle.g9932.proofs.Verdicts.{number_none, nine_unused}
use Rattle.guarantees.specs.Words.{Bytes, AcceptedFrame, Ready, non_zero, turned}
use Rattle.guarantees.proofs.HalfTurn.{right, are_points}
use Rattle.guarantees.proofs.Operations.{done, encoded, read_ready}
use Rattle.guarantees.proofs.RoundTrip.{length_sent_in, X-of, Y-of, answered}
use Rattle.guarantees.proofs.NearestFrames.{written_read, read_written, nearest_exact, nearest_half_turn}
use Rattle.guarantees.proofs.NearestVerdicts.{done_nearest}

no_size_lem : (a : Result Nearest Refused) → (nearest_of a).verdict.number ≢ 0 → (nearest_of a).verdict.size ≡ 0
no_size_lem (Ok a) h = absurd (h refl)
no_size_lem (Err x) h = refl

pub nine_nearest : (a : Result Nearest Refused) → (nearest_of a).verdict.number ≢ 9
nine_nearest (Ok a) e = omega arith
nine_nearest (Err x) e = nine_unused x.refusal e

sent_range : (T : Tables) (a : Accepted T) (r start : ℕ) (g : List ℕ) → AcceptedFrame T start g → (k : ℕ) → k < length T.tones
    → range_test (written_points T r start g) k ≡ false
unfolding written_points
sent_range T a r start g ok k l = written_range T a r (sent_in T start g) (length_sent_in T a r start g ok) k (omega (arith, length_classes T))

module _ (T : Tables) (X Y : List ℤ) (r start : ℕ) (f₀ work : List ℕ) where
  abbrev verdict : Verdict
  verdict = nearest_verdict T X Y r start (length f₀) (length work)

  -- where everything is in order
  in_order : Ready T r start X Y f₀ → start ≤ 7 → length work ≡ work_bytes T
      → ((k : ℕ) → k < length T.tones → range_test (points X Y) k ≡ false) → accepted (size_of T) ≡ verdict
  in_order ready small room range =
      sym (done_nearest T ready.tables X Y start r f₀ work ready.lists ready.frame room small ready.register
      (first_all (range_test (points X Y)) (length T.tones) range))

  module _ (a : Result Nearest Refused) (f work' : List ℕ) (reads : ReadsNearest T X Y r start f₀ work a f work') where
    number_is : (nearest_of a).verdict.number ≡ verdict.number
    unfolding report_by
    number_is = ap (λ (e : Report). e.verdict.number) reads.answer

    pub nearest_answer_lem : (nearest_of a).verdict.number ≡ 0 → NearestFrame T (points X Y) r start f (total_in a)
    nearest_answer_lem h = reads.nearest (sym number_is ∙ h)

    pub refused_nearest : (nearest_of a).verdict.number ≢ 0
        → ((nearest_of a).register ≡ r) × (f ≡ f₀) × (work' ≡ work) × ((nearest_of a).verdict.size ≡ 0)
    unfolding report_by
    refused_nearest h =
        let some : verdict.number ≢ 0 = λ e. h (number_is ∙ e) in
        (ap (λ (e : Report). e.register) reads.answer ∙ rw (ne_eqb verdict.number 0 some), reads.frame_kept some, reads.work_kept some, no_size_lem a h)

    order_done : accepted (size_of T) ≡ verdict → (nearest_of a ≡ done T r) × NearestFrame T (points X Y) r start f (total_in a)
    unfolding report_by
    order_done e = (reads.answer ∙ rw (← e), reads.nearest (number_none e))

    -- on points that are read exactly
    pub nearest_as_exact : length work ≡ work_bytes T → Bytes f → (read_at T X Y r start f₀).report.verdict.number ≡ 0
        → (nearest_of a ≡ (read_at T X Y r start f₀).report) × (total_in a ≡ 0) × (f ≡ (read_at T X Y r start f₀).frame)
    nearest_as_exact room bytes h =
        let ready = (read_ready T X Y r start f₀ h).0 in
        let small = (read_ready T X Y r start f₀ h).1 in
        let w = read_written T r start X Y f₀ ready X Y ready.lists h in
        let range : (k : ℕ) → k < length T.tones → range_test (points X Y) k ≡ false =
        λ k l. ap (λ (q : List Point). range_test q k) w.2 ∙ sent_range T (accepted_tables T ready.tables) r start w.0 w.1 k l in
        let o = order_done (in_order ready small room range) in
        let ok : AcceptedFrame T start f = record { bytes = bytes; passes = o.1.frame_accepted } in
        let x = nearest_exact T r start X Y f₀ ready X Y ready.lists f ok (total_in a) o.1 h in
        let report : (read_at T X Y r start f₀).report ≡ done T r =
        ap (λ (b : Read). b.report) (written_read T r start X Y f₀ ready X Y ready.lists w.0 w.1 w.2)
        ∙ ap (λ (b : Encoded). b.report) (encoded T r start X Y f₀ ready w.0 w.1) in
        (o.0 ∙ sym report, x.0, x.1)

module _ (T : Tables) (r start : ℕ) (xs ys : List ℤ) (f₀ : List ℕ) (ready : Ready T r start xs ys f₀) (work : List ℕ)
    (room : length work ≡ work_bytes T) (g : List ℕ) (ok : AcceptedFrame T start g) (a : Result Nearest Refused) (f work' : List ℕ) where
  pub nearest_round_trip : Bytes f → ReadsNearest T (X-of T r start xs ys f₀ ready g) (Y-of T r start xs ys f₀ ready g) r start f₀ work a f work'
      → (nearest_of a ≡ (encode_at T start g r xs ys).report) × (total_in a ≡ 0) × (f ≡ g)
  nearest_round_trip bytes reads =
      let e = answered T r start xs ys f₀ ready g ok in
      let z = ap (λ (b : Read). b.report.verdict.number) e ∙ ap (λ (b : Encoded). b.report.verdict.number) (encoded T r start xs ys f₀ ready g ok) in
      let x = nearest_as_exact T (X-of T r start xs ys f₀ ready g) (Y-of T r start xs ys f₀ ready g) r start f₀ work a f work' reads room bytes z in
      (x.0 ∙ ap (λ (b : Read). b.report) e, x.1, x.2 ∙ ap (λ (b : Read). b.frame) e)

  pub nearest_turned : (m : T.mode ≡ Coded)
      → ReadsNearest T (turned (X-of T r start xs ys f₀ ready g)) (turned (Y-of T r start xs ys f₀ ready g)) r start f₀ work a f work'
      → (nearest_of a ≡ (encode_at T start g r xs ys).report) × ((total_in a ≡ 0) ↔ (non_zero T % 2 ≡ 0))
  nearest_turned m reads =
      let X' : List ℤ = turned (X-of T r start xs ys f₀ ready g) in
      let Y' : List ℤ = turned (Y-of T r start xs ys f₀ ready g) in
      let ready' : Ready T r start X' Y' f₀ =
      record { tables = ready.tables; register = ready.register; lists = right T r start xs ys f₀ ready m g ok; frame = ready.frame } in
      let range : (k : ℕ) → k < length T.tones → range_test (points X' Y') k ≡ false =
      λ k l. ap (λ (q : List Point). range_test q k) (are_points T r start xs ys f₀ ready m g ok) ∙ opposite_range (written_points T r start g) k
      ∙ sent_range T (accepted_tables T ready.tables) r start g ok k l in
      let order = in_order T X' Y' r start f₀ work ready' (start_most_lem start (size_of T) g ok.passes) room range in
      let o = order_done T X' Y' r start f₀ work a f work' reads order in (
        o.0 ∙ sym (ap (λ (b : Encoded). b.report) (encoded T r start xs ys f₀ ready g ok)),
        nearest_half_turn T r start xs ys f₀ ready m g ok f (total_in a) o.1,
      )
