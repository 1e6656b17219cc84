-- The core's answers, as C has them.
use Prim.Native.Nat.{ℕ, zero, suc, ◌≤◌}
use mathlib.Core.Path.{◌≡◌, refl, sym, ap, ◌∙◌, subst}
use lib.IntN.{ℤ}
use mathlib.Core.List.{List}
use lib.ListN.{length}
use Rattle.g9932.proofs.Aligned.{start_zero_encoding, start_zero_reading}
use Rattle.g9932.specs.Sizes.{Tables, tables, most_tones, points}
use Rattle.g9932.specs.Refusals.{Verdict, table_verdict}
use Rattle.g9932.specs.Answers.{verdict_of, Report, report_of, report_by, Reorders, Encoded, Encodes, Read, Reads}
use Rattle.g9932.specs.Nearest.{NearestFrame, nearest_report, nearest_of, total_in, ReadsNearest}
use Rattle.g9932.specs.Clip.{clip_check, clip_report_by, clip_report_of}
use Rattle.g9932.specs.declared.Mode.{Mode}
use Rattle.g9932.specs.declared.Mode.TheVariants.{Coded}
use Rattle.g9932.specs.declared.Nearest.{Nearest}
use Rattle.g9932.specs.declared.Done.{Done}
use Rattle.g9932.specs.declared.ClipTold.{ClipTold}
use Rattle.g9932.specs.declared.Refusal.{Refusal}
use Rattle.g9932.specs.declared.Refused.{Refused}
use Rattle.std.specs.Prelude.{Result, Ok, Err}
use Rattle.clevisroot.specs.CAnswers.{mode_of, answer_of, reported, with_total, nearest_answer, Small, ReorderAnswered, EncodeAnswered, ReadAnswered, EncodeAtAnswered, ReadAtAnswered, NearestAnswered}
use Rattle.clevisroot.specs.declared.SymbolAnswer.{SymbolAnswer}
use Rattle.clevisroot.specs.declared.NearestAnswer.{NearestAnswer}
use Rattle.clevisroot.specs.declared.PointAnswer.{PointAnswer}
use Rattle.clevisroot.proofs.Places.{small_table, small_order, small_encode, small_read, small_nearest, clip_place}

pub coded_mode : (n : ℕ) → (n ≡ 0 → ⊥) → Coded ≡ mode_of n
coded_mode zero h = absurd (h refl)
coded_mode (suc n) h = refl

pub fields : {n n' p p' : ℕ} (reg : ℕ) → n ≡ n' → p ≡ p' → ◌≡◌ {A = SymbolAnswer} (record { number = n; place = p; size = 0; reg = reg }) (record { number = n'; place = p'; size = 0; reg = reg })
fields reg e f = rw (e, f)

-- an answer, and the case of it that a match has found
pub small_checked : {a b : Result ℕ Refusal} → a ≡ b → Small (verdict_of a) → Small (verdict_of b)
small_checked e s = rw e at s

pub small_answer : {a b : Result Done Refused} → a ≡ b → Small (report_of a).verdict → Small (report_of b).verdict
small_answer e s = rw e at s

pub small_near : {a b : Result Nearest Refused} → a ≡ b → Small (nearest_of a).verdict → Small (nearest_of b).verdict
small_near e s = rw e at s

pub checked_as : {a b : Result ℕ Refusal} {v : SymbolAnswer} → a ≡ b → v ≡ answer_of (verdict_of b) 0 → v ≡ answer_of (verdict_of a) 0
checked_as e t = rw e t

pub reported_as : {a b : Result Done Refused} {v : SymbolAnswer} → a ≡ b → v ≡ reported (report_of b) → v ≡ reported (report_of a)
reported_as e t = rw e t

pub nearest_as : {a b : Result Nearest Refused} {s : SymbolAnswer} {v : NearestAnswer} → a ≡ b → s ≡ reported (nearest_of b) → v ≡ with_total s (total_in b) → v ≡ nearest_answer (nearest_of a) (total_in a)
nearest_as {b = b} e k t = rw e (t ∙ ap (λ (x : SymbolAnswer). with_total x (total_in b)) k)

pub point_fields : {x x' y y' : ℤ} → x ≡ x' → y ≡ y' → ◌≡◌ {A = PointAnswer} (record { number = 0; x = x; y = y }) (record { number = 0; x = x'; y = y' })
point_fields e f = rw (e, f)

-- the clip check's answer
pub clip_small : (T : Tables) (xs ys : List ℤ) (r : ℕ) (a : Result ClipTold Refused) → clip_report_of a ≡ clip_check T xs ys r → (clip_report_of a).place ≤ most_tones
unfolding clip_report_by
clip_small T xs ys r a h = rw h (clip_place T (length xs) (length ys) r)

-- a refused answer carries no total
refused_total : (a : Result Nearest Refused) → ((nearest_of a).verdict.number ≡ 0 → ⊥) → total_in a ≡ 0
refused_total (Ok a) h = absurd (h refl)
refused_total (Err x) h = refl

-- ---- the calls: the core is asked in the mode that `coded` names

module _ {m n : Mode} (b g t : List ℕ) (e : m ≡ n) where
  pub checked_small : (a : Result ℕ Refusal) → verdict_of a ≡ table_verdict (tables m b g t) → Small (verdict_of a)
  checked_small a h = rw h (small_table (tables m b g t))

  pub checked_answered : (a : Result ℕ Refusal) {v : SymbolAnswer} → verdict_of a ≡ table_verdict (tables m b g t) → v ≡ answer_of (verdict_of a) 0 → v ≡ answer_of (table_verdict (tables n b g t)) 0
  checked_answered a h k = k ∙ ap (λ (w : Verdict). answer_of w 0) h ∙ rw e

  pub order_small : {a : Result ℕ Refusal} {tones bits tones_after bits_after : List ℕ} → Reorders (tables m b g t) tones bits a tones_after bits_after → Small (verdict_of a)
  order_small {tones = tones} {bits = bits} h = rw h.answer (small_order (tables m b g t) (length tones) (length bits))

  pub order_answered : {a : Result ℕ Refusal} {v : SymbolAnswer} {tones bits tones_after bits_after : List ℕ} → Reorders (tables m b g t) tones bits a tones_after bits_after → v ≡ answer_of (verdict_of a) 0
      → ReorderAnswered (tables n b g t) tones bits v tones_after bits_after
  order_answered h k = rw (sym e) (record { answer = k ∙ ap (λ (w : Verdict). answer_of w 0) h.answer; tones_hold = h.tones_hold; bits_hold = h.bits_hold })

  module _ {start : ℕ} {f : List ℕ} {r : ℕ} {xs ys xs_after ys_after : List ℤ} {a : Result Done Refused} (h : Encodes (tables m b g t) start f r xs ys a xs_after ys_after) where
    pub encode_small : Small (report_of a).verdict
    unfolding report_by
    encode_small = rw h.answer (small_encode (tables m b g t) start f r (length xs) (length ys))

    pub encode_at_lem : {v : SymbolAnswer} → v ≡ reported (report_of a) → EncodeAtAnswered (tables n b g t) start f r xs ys v xs_after ys_after
    encode_at_lem k = rw (sym e) (record { answer = k ∙ ap reported h.answer; xs_hold = h.xs_hold; ys_hold = h.ys_hold })

  module _ {start : ℕ} {f f_after : List ℕ} {r : ℕ} {xs ys : List ℤ} {a : Result Done Refused} (h : Reads (tables m b g t) xs ys r start f a f_after) where
    pub read_small : Small (report_of a).verdict
    unfolding report_by
    read_small = rw h.answer (small_read (tables m b g t) xs ys r start (length f))

    pub read_at_lem : {v : SymbolAnswer} → v ≡ reported (report_of a) → ReadAtAnswered (tables n b g t) xs ys r start f v f_after
    read_at_lem k = rw (sym e) (record { answer = k ∙ ap reported h.answer; frame_holds = h.frame_holds })

  module _ {start : ℕ} {f work f_after work_after : List ℕ} {r : ℕ} {xs ys : List ℤ} {a : Result Nearest Refused} (h : ReadsNearest (tables m b g t) xs ys r start f work a f_after work_after) where
    pub nearest_small : Small (nearest_of a).verdict
    unfolding report_by
    nearest_small = rw h.answer (small_nearest (tables m b g t) xs ys r start (length f) (length work))

    pub nearest_answered : {v : NearestAnswer} → v ≡ nearest_answer (nearest_of a) (total_in a) → NearestAnswered (tables n b g t) xs ys r start f work v f_after work_after
    unfolding report_by
    nearest_answered k =
        let T = tables m b g t in
        let report = nearest_report T xs ys r start (length f) (length work) in
        let same = ap (λ (x : NearestAnswer). x.total) k in
        let number = ap (λ (x : Report). x.verdict.number) h.answer in
        rw (sym e) (record {
          answer = k ∙ ap (λ (x : Report). nearest_answer x (total_in a)) h.answer ∙ ap (nearest_answer report) (sym same);
          no_total = λ z. same ∙ refused_total a (λ p. z (sym number ∙ p));
          nearest = λ z. subst (NearestFrame T (points xs ys) r start f_after) (sym same) (h.nearest z);
          frame_kept = h.frame_kept;
          work_kept = h.work_kept;
          work_length = h.work_length;
        })

-- a call without a start is that with start 0
pub encode_answered : {T : Tables} {f : List ℕ} {r : ℕ} {xs ys xs_after ys_after : List ℤ} {v : SymbolAnswer} → EncodeAtAnswered T 0 f r xs ys v xs_after ys_after
    → EncodeAnswered T f r xs ys v xs_after ys_after
encode_answered {T} {f} {r} {xs} {ys} h =
    let same = start_zero_encoding T f r xs ys in
    record {
      answer = h.answer ∙ ap (λ (x : Encoded). reported x.report) same;
      xs_hold = h.xs_hold ∙ ap (λ (x : Encoded). x.xs) same;
      ys_hold = h.ys_hold ∙ ap (λ (x : Encoded). x.ys) same;
    }

pub read_answered : {T : Tables} {f f_after : List ℕ} {r : ℕ} {xs ys : List ℤ} {v : SymbolAnswer} → ReadAtAnswered T xs ys r 0 f v f_after → ReadAnswered T xs ys r f v f_after
read_answered {T} {f} {f_after} {r} {xs} {ys} h =
    let same = start_zero_reading T xs ys r f in
    record {
      answer = h.answer ∙ ap (λ (x : Read). reported x.report) same;
      frame_holds = h.frame_holds ∙ ap (λ (x : Read). x.frame) same;
    }
