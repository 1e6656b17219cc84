-- Request R-4: points with their gain on, as 32-bit floats, and the peak of a symbol. Everything is said over whole numbers: 512 times a
-- number that is driven is gain times coordinate.
use Rattle.std.specs.Prelude.{Option, None, Some, Result, Ok, Err}
use Rattle.std.specs.Prelude.{ℕ, ◌<◌, Bool, true, false, cond, List, [], ◌∷◌, map, ◌≡◌, ltb, eqb, Float, ℤ, pos, negsuc, nat_abs, ◌*ℤ◌, length, get_or}
use Rattle.std.specs.Float.{nan}
use Rattle.std.specs.Float.Ieee.{odd}
use Rattle.std.specs.Float.Ieee.Exact.{HasValue}
use Rattle.g9932.specs.Answers.{on_done, Report, report_by, refused_report, encode_verdict}
use Rattle.g9932.specs.Bits.{first}
use Rattle.g9932.specs.Filler.{register_after}
use Rattle.g9932.specs.Refusals.{Verdict, accepted}
use Rattle.g9932.specs.Sizes.{Tables, entry, Point, point, origin}
use Rattle.g9932.specs.Symbol.{reordered_tones_of, classes_of, written_points}
use Rattle.g9932.specs.declared.Class.{Class}
use Rattle.g9932.specs.declared.Class.TheVariants.{Data, Monitored, Silent}
use Rattle.g9932.specs.declared.Drive.{Drive}
use Rattle.g9932.specs.declared.Refused.{Refused}
use Rattle.g9932.specs.declared.Peak.{Peak}
use Rattle.g9932.specs.declared.Signal.{Signal}
use Rattle.g9932.specs.declared.Signal.TheVariants.{Driven, Silent as NotDriven}

-- ---- 512ths

abbrev pub is_negative : ℤ → Bool
is_negative (pos n) = false
is_negative (negsuc n) = true

-- 512 times the float v is the whole number z: v is m times 2 to the e with the sign of z, and 512 times that is z in size
abbrev pub Times512 : Float → ℤ → Type 0
Times512 v z = HasValue v (is_negative z) (nat_abs z) 512

-- The float that is z / 512: z over 2 to the 9, written in the one way that a float of 24 binary digits has. Nothing is rounded.
unfoldable pub over512 : ℤ → Float
unfolding odd
over512 z = odd 24 (is_negative z) (nat_abs z) 0 9

-- ---- what is driven at each place in t'

-- Gain times coordinate: 512 times the two numbers of a place that is driven. Data and monitored tones are; a silent one has none.
abbrev pub gained : ℕ → Point → Point
gained g p = point (pos g *ℤ p.px) (pos g *ℤ p.py)

abbrev pub whole_at : Class → ℕ → Point → Option Point
whole_at (Data n) g p = Some (gained g p)
whole_at Monitored g p = Some (gained g p)
whole_at Silent g p = None

unfoldable pub wholes_by : List Class → List ℕ → List Point → List (Option Point)
wholes_by [] gs ps = []
wholes_by (c ∷ cs) [] ps = []
wholes_by (c ∷ cs) (g ∷ gs) [] = []
wholes_by (c ∷ cs) (g ∷ gs) (p ∷ ps) = whole_at c g p ∷ wholes_by cs gs ps

-- the gains of the tones, in t' order
abbrev pub gains_of : Tables → List ℕ
gains_of T = map (entry T.gains) (reordered_tones_of T)

-- those of the points that a frame gives
unfoldable pub driven_wholes : Tables → ℕ → ℕ → List ℕ → List (Option Point)
driven_wholes T r start f = wholes_by (classes_of T) (gains_of T) (written_points T r start f)

-- either driven, carrying two numbers, or silent, carrying none
abbrev pub signal_of : Option Point → Signal
signal_of (Some w) = Driven (over512 w.px) (over512 w.py)
signal_of None = NotDriven

-- what the two lists have; 0 at a silent place
abbrev pub x_of : Signal → Float
x_of (Driven x y) = x
x_of NotDriven = over512 (pos 0)

abbrev pub y_of : Signal → Float
y_of (Driven x y) = y
y_of NotDriven = over512 (pos 0)

-- ---- the summary

abbrev pub larger : ℕ → ℕ → ℕ
larger a b = cond (ltb a b) b a

-- 512 times the larger size of a place's numbers
abbrev pub size_at : Option Point → ℕ
size_at (Some w) = larger (nat_abs w.px) (nat_abs w.py)
size_at None = 0

-- 512 times the largest size of any number; 0 if all are silent
unfoldable pub largest : List (Option Point) → ℕ
largest [] = 0
largest (w ∷ ws) = larger (size_at w) (largest ws)

-- whether a place is driven with a number of that size
abbrev pub has_size : ℕ → Option Point → Bool
has_size n (Some w) = eqb (size_at (Some w)) n
has_size n None = false

-- the first place that has the largest size; NSC if all are silent
abbrev pub place_or : ℕ → Option ℕ → ℕ
place_or n (Some k) = k
place_or n None = n

abbrev pub peak_place : List (Option Point) → ℕ
peak_place ws = place_or (length ws) (first (λ k. has_size (largest ws) (get_or ws k None)) (length ws))

abbrev pub peak_of : List (Option Point) → Peak
peak_of ws = record { size = over512 (pos (largest ws)); place = record { 0 = peak_place ws } }

-- ---- driving uses the refusals of encoding, in the same order; a refused one carries no summary

pub record DriveReport : Type 0 where
  pub report : Report
  pub peak : Option Peak

abbrev pub drive_report_of : Result Drive Refused → DriveReport
drive_report_of (Ok a) = record { report = record { verdict = accepted a.size; register = a.register }; peak = Some a.peak }
drive_report_of (Err x) = record { report = refused_report x; peak = None }

unfoldable pub peak_if : Verdict → List (Option Point) → Option Peak
peak_if v ws = cond (eqb v.number 0) (Some (peak_of ws)) None

pub record Driving : Type 0 where
  pub told : DriveReport
  pub xs : List Float
  pub ys : List Float

-- of a frame that starts at a bit of its first byte
abbrev pub drive_at : Tables → ℕ → List ℕ → ℕ → List Float → List Float → Driving
drive_at T start f r xs ys =
    record {
      told =
          record {
            report = report_by (encode_verdict T start f r (length xs) (length ys)) r (register_after r (classes_of T));
            peak = peak_if (encode_verdict T start f r (length xs) (length ys)) (driven_wholes T r start f);
          };
      xs = on_done (encode_verdict T start f r (length xs) (length ys)) (map (λ w. x_of (signal_of w)) (driven_wholes T r start f)) xs;
      ys = on_done (encode_verdict T start f r (length xs) (length ys)) (map (λ w. y_of (signal_of w)) (driven_wholes T r start f)) ys;
    }

-- 512 times what is driven at a place, as a point; (0, 0) where it is silent
abbrev pub whole_or : Option Point → Point
whole_or (Some w) = w
whole_or None = origin

-- The promise of an operation that drives: its answer, and both lists afterwards. Where nothing is refused, 512 times each number is gain
-- times coordinate, and 512 times the peak the largest of them in size: nothing is rounded.
pub record Drives (T : Tables) (start : ℕ) (f : List ℕ) (r : ℕ) (xs ys : List Float) (a : Result Drive Refused) (xs_after ys_after : List Float) : Type 0 where
  pub answer : drive_report_of a ≡ (drive_at T start f r xs ys).told
  pub xs_hold : xs_after ≡ (drive_at T start f r xs ys).xs
  pub ys_hold : ys_after ≡ (drive_at T start f r xs ys).ys
  pub exact : (encode_verdict T start f r (length xs) (length ys)).number ≡ 0 → (k : ℕ) → k < length T.tones
      → Times512 (get_or xs_after k nan) (whole_or (get_or (driven_wholes T r start f) k None)).px × Times512 (get_or ys_after k nan) (whole_or (get_or (driven_wholes T r start f) k None)).py
  pub exact_peak : (p : Peak) → (drive_report_of a).peak ≡ Some p → Times512 p.size (pos (largest (driven_wholes T r start f)))
