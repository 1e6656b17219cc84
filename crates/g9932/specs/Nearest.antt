-- Request R-13: points that were received off the grid, and the frame whose written points are nearest to them.
use Rattle.std.specs.Prelude.{Result, Ok, Err, ℕ, ◌+◌, ◌*◌, ◌≤◌, Bool, false, ◌||◌, List, [], ◌∷◌, ◌≡◌, ltb, ℤ, nat_abs, ◌-ℤ◌, length, get_or}
use Rattle.g9932.specs.Answers.{Report, report_by, refused_report}
use Rattle.g9932.specs.Bits.{first}
use Rattle.g9932.specs.Filler.{register_after}
use Rattle.g9932.specs.Refusals.{Verdict, accepted, refuse_if, refuse_at, and_then, room_test, start_test, frame_test, seed_test, table_verdict}
use Rattle.g9932.specs.Sizes.{Tables, bytes_for, Point, points, origin}
use Rattle.g9932.specs.Symbol.{classes_of, pairs_in, size_of, written_points}
use Rattle.g9932.specs.declared.Class.{Class}
use Rattle.g9932.specs.declared.Class.TheVariants.{Data, Monitored, Silent}
use Rattle.g9932.specs.declared.Nearest.{Nearest}
use Rattle.g9932.specs.declared.Refused.{Refused}

-- ---- distances

-- how far two coordinates are apart, and the squared distance of two points
abbrev pub apart : ℤ → ℤ → ℕ
apart a b = nat_abs (a -ℤ b)

abbrev pub squared_distance : Point → Point → ℕ
squared_distance p q = apart p.px q.px * apart p.px q.px + apart p.py q.py * apart p.py q.py

-- of a tone's points, received and written; the total looks at loaded tones only
abbrev pub tone_distance : Class → Point → Point → ℕ
tone_distance (Data n) p q = squared_distance p q
tone_distance Monitored p q = 0
tone_distance Silent p q = 0

-- the total of squared distances of received points from written ones, both in t' order
unfoldable pub total_of : List Class → List Point → List Point → ℕ
total_of [] ps qs = 0
total_of (c ∷ cs) [] qs = 0
total_of (c ∷ cs) (p ∷ ps) [] = 0
total_of (c ∷ cs) (p ∷ ps) (q ∷ qs) = tone_distance c p q + total_of cs ps qs

-- the total of a frame, which starts at a bit of its first byte
abbrev pub frame_total : Tables → List Point → ℕ → ℕ → List ℕ → ℕ
frame_total T ps r start f = total_of (classes_of T) ps (written_points T r start f)

-- f is a nearest frame: an accepted one whose written points have the total n; no accepted frame has less
pub record NearestFrame (T : Tables) (ps : List Point) (r start : ℕ) (f : List ℕ) (n : ℕ) : Type 0 where
  pub frame_accepted : frame_test start (size_of T) f ≡ false
  pub total : frame_total T ps r start f ≡ n
  pub least : (g : List ℕ) → frame_test start (size_of T) g ≡ false → n ≤ frame_total T ps r start g

-- ---- nearest reading uses 1 to 8, 10 to 12, of 11 the start alone, and 23

-- 23 RANGE: a coordinate is not −1,023 to 1,023; it looks at every place
abbrev pub out_of_range : ℤ → Bool
out_of_range z = ltb 1023 (nat_abs z)

abbrev pub range_test : List Point → ℕ → Bool
range_test ps k = out_of_range (get_or ps k origin).px || out_of_range (get_or ps k origin).py

-- the lent working buffer has exactly 16 bytes a coded pair; uncoded there are no pairs
abbrev pub work_bytes : Tables → ℕ
work_bytes T = 16 * length (pairs_in T)

-- 10 to 12, for a frame of l bits, NSC tones and a working buffer of `bytes`
unfoldable pub nearest_inputs : ℕ → ℕ → ℕ → ℕ → ℕ → ℕ → ℕ → ℕ → ℕ → Verdict
nearest_inputs start l nsc bytes x_length y_length frame_length work_length r =
    refuse_if 10 (room_test x_length nsc || room_test y_length nsc || room_test frame_length (bytes_for start l) || room_test work_length bytes)
    (refuse_if 11 (start_test start)
    (refuse_if 12 (seed_test r)
    (accepted l)))

-- then 23
unfoldable pub range_verdict : Tables → List Point → Verdict
range_verdict T ps = refuse_at 23 (first (range_test ps) (length T.tones)) (accepted (size_of T))

unfoldable pub nearest_verdict : Tables → List ℤ → List ℤ → ℕ → ℕ → ℕ → ℕ → Verdict
nearest_verdict T xs ys r start frame_length work_length =
    and_then (table_verdict T)
    (and_then (nearest_inputs start (size_of T) (length T.tones) (work_bytes T) (length xs) (length ys) frame_length work_length r)
    (range_verdict T (points xs ys)))

-- number, place, L and register: equations, the register as in exact reading
abbrev pub nearest_report : Tables → List ℤ → List ℤ → ℕ → ℕ → ℕ → ℕ → Report
nearest_report T xs ys r start frame_length work_length =
    report_by (nearest_verdict T xs ys r start frame_length work_length) r (register_after r (classes_of T))

abbrev pub nearest_of : Result Nearest Refused → Report
nearest_of (Ok a) = record { verdict = accepted a.size; register = a.register }
nearest_of (Err x) = refused_report x

-- the total of an answer; a refused one carries none
abbrev pub total_in : Result Nearest Refused → ℕ
total_in (Ok a) = a.total
total_in (Err x) = 0

-- The promise of nearest reading. Which frame it is, where several have the smallest total, is free, and so is what the working buffer
-- holds afterwards: the promise has its length alone. On a refusal neither buffer is changed.
pub record ReadsNearest (T : Tables) (xs ys : List ℤ) (r start : ℕ) (f work : List ℕ) (a : Result Nearest Refused) (f_after work_after : List ℕ) : Type 0 where
  pub answer : nearest_of a ≡ nearest_report T xs ys r start (length f) (length work)
  pub nearest : (nearest_verdict T xs ys r start (length f) (length work)).number ≡ 0 → NearestFrame T (points xs ys) r start f_after (total_in a)
  pub frame_kept : ((nearest_verdict T xs ys r start (length f) (length work)).number ≡ 0 → ⊥) → f_after ≡ f
  pub work_kept : ((nearest_verdict T xs ys r start (length f) (length work)).number ≡ 0 → ⊥) → work_after ≡ work
  pub work_length : length work_after ≡ length work
