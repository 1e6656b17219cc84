-- The answers as C has them: document 01's numbers, with 0 where there is nothing to tell.
use Rattle.std.specs.Prelude.{Option, None, Some}
use Rattle.std.specs.Prelude.{ℕ, zero, suc, ◌≤◌, Bool, List, ◌≡◌, ℤ, length}
use Rattle.g9932.specs.Bits.{weight}
use Rattle.g9932.specs.Sizes.{Tables, most_tones, most_bits, Point, points, origin}
use Rattle.g9932.specs.Refusals.{Verdict}
use Rattle.g9932.specs.Answers.{Report, OneTone, Draw, reorder_of, encode_at, read_at}
use Rattle.g9932.specs.Aligned.{encode_of, read_of}
use Rattle.g9932.specs.Nearest.{NearestFrame, nearest_verdict, nearest_report}
use Rattle.g9932.specs.Clip.{ClipReport, clip_number}
use Rattle.tally.specs.PairReport.{Told}
use Rattle.g9932.specs.declared.Mode.{Mode}
use Rattle.g9932.specs.declared.Mode.TheVariants.{Uncoded, Coded}
use Rattle.clevisroot.specs.declared.SymbolAnswer.{SymbolAnswer}
use Rattle.clevisroot.specs.declared.NearestAnswer.{NearestAnswer}
use Rattle.clevisroot.specs.declared.ClipAnswer.{ClipAnswer}
use Rattle.clevisroot.specs.declared.PointAnswer.{PointAnswer}
use Rattle.clevisroot.specs.declared.LabelAnswer.{LabelAnswer}
use Rattle.clevisroot.specs.declared.DrawAnswer.{DrawAnswer}
use Rattle.clevisroot.specs.declared.TallyAnswer.{TallyAnswer}

-- 0 is uncoded, anything else coded
abbrev pub mode_of : ℕ → Mode
mode_of zero = Uncoded
mode_of (suc n) = Coded

-- ---- calls with tables

abbrev pub answer_of : Verdict → ℕ → SymbolAnswer
answer_of v reg = record { number = v.number; place = v.place; size = v.size; reg = reg }

abbrev pub reported : Report → SymbolAnswer
reported a = answer_of a.verdict a.register

-- bounds that a C answer has room for
pub record Small (v : Verdict) : Type 0 where
  pub place_most : v.place ≤ most_tones
  pub size_most : v.number ≡ 0 → v.size ≤ most_bits

pub record ReorderAnswered (T : Tables) (tones bits : List ℕ) (a : SymbolAnswer) (tones_after bits_after : List ℕ) : Type 0 where
  pub answer : a ≡ answer_of (reorder_of T tones bits).verdict 0
  pub tones_hold : tones_after ≡ (reorder_of T tones bits).tones
  pub bits_hold : bits_after ≡ (reorder_of T tones bits).bits

-- without a start: of a frame that starts on a byte (`Aligned`)
pub record EncodeAnswered (T : Tables) (f : List ℕ) (r : ℕ) (xs ys : List ℤ) (a : SymbolAnswer) (xs_after ys_after : List ℤ) : Type 0 where
  pub answer : a ≡ reported (encode_of T f r xs ys).report
  pub xs_hold : xs_after ≡ (encode_of T f r xs ys).xs
  pub ys_hold : ys_after ≡ (encode_of T f r xs ys).ys

pub record ReadAnswered (T : Tables) (xs ys : List ℤ) (r : ℕ) (f : List ℕ) (a : SymbolAnswer) (f_after : List ℕ) : Type 0 where
  pub answer : a ≡ reported (read_of T xs ys r f).report
  pub frame_holds : f_after ≡ (read_of T xs ys r f).frame

-- with a start
pub record EncodeAtAnswered (T : Tables) (start : ℕ) (f : List ℕ) (r : ℕ) (xs ys : List ℤ) (a : SymbolAnswer) (xs_after ys_after : List ℤ) : Type 0 where
  pub answer : a ≡ reported (encode_at T start f r xs ys).report
  pub xs_hold : xs_after ≡ (encode_at T start f r xs ys).xs
  pub ys_hold : ys_after ≡ (encode_at T start f r xs ys).ys

pub record ReadAtAnswered (T : Tables) (xs ys : List ℤ) (r start : ℕ) (f : List ℕ) (a : SymbolAnswer) (f_after : List ℕ) : Type 0 where
  pub answer : a ≡ reported (read_at T xs ys r start f).report
  pub frame_holds : f_after ≡ (read_at T xs ys r start f).frame

-- ---- reading received points: a refused one has the total 0

abbrev pub with_total : SymbolAnswer → ℕ → NearestAnswer
with_total a total = record { number = a.number; place = a.place; size = a.size; reg = a.reg; total = total }

abbrev pub nearest_answer : Report → ℕ → NearestAnswer
nearest_answer a total = with_total (reported a) total

-- Number, place, L and register are an equation; the total is that of the frame's own written points, and no frame has less. Which frame it
-- is, where several have that total, is free, and so is what `work` holds afterwards. On a refusal neither buffer is changed.
pub record NearestAnswered (T : Tables) (xs ys : List ℤ) (r start : ℕ) (f work : List ℕ) (a : NearestAnswer) (f_after work_after : List ℕ) : Type 0 where
  pub answer : a ≡ nearest_answer (nearest_report T xs ys r start (length f) (length work)) a.total
  pub no_total : ((nearest_verdict T xs ys r start (length f) (length work)).number ≡ 0 → ⊥) → a.total ≡ 0
  pub nearest : (nearest_verdict T xs ys r start (length f) (length work)).number ≡ 0 → NearestFrame T (points xs ys) r start f_after a.total
  pub frame_kept : ((nearest_verdict T xs ys r start (length f) (length work)).number ≡ 0 → ⊥) → f_after ≡ f
  pub work_kept : ((nearest_verdict T xs ys r start (length f) (length work)).number ≡ 0 → ⊥) → work_after ≡ work
  pub work_length : length work_after ≡ length work

-- ---- the clip check: a refused one has clip 0

abbrev pub clip_answered : ClipReport → ClipAnswer
clip_answered a = record { number = a.number; place = a.place; clip = clip_number a.clip; reg = a.register }

-- ---- one-tone calls, and one draw: a refused one has point (0, 0), label 0, bit 0

abbrev pub point_or : Option Point → Point → Point
point_or (Some p) q = p
point_or None q = q

abbrev pub number_or : Option ℕ → ℕ → ℕ
number_or (Some n) m = n
number_or None m = m

abbrev pub bit_or : Option Bool → ℕ → ℕ
bit_or (Some b) n = weight b
bit_or None n = n

abbrev pub point_answered : OneTone Point → PointAnswer
point_answered a = record { number = a.number; x = (point_or a.value origin).px; y = (point_or a.value origin).py }

abbrev pub label_answered : OneTone ℕ → LabelAnswer
label_answered a = record { number = a.number; label = number_or a.value 0 }

abbrev pub draw_answered : Draw → DrawAnswer
draw_answered a = record { number = a.number; bit = bit_or a.bit 0; reg = a.register }

-- ---- the pair report

abbrev pub tally_answered : Told → TallyAnswer
tally_answered a = record { number = a.number; tally = a.tally }
