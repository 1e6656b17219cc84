-- Request R-10: "Is my clip the wrong way round?" The answer for all inputs. Of the points it looks at the first monitored tone's only.
use Rattle.std.specs.Prelude.{Option, None, Some, Result, Ok, Err}
use Rattle.std.specs.Prelude.{ℕ, Bool, true, false, ◌||◌, cond, List, eqb, ℤ, length, take, get_or}
use Rattle.g9932.specs.Filler.{drawn, register_after}
use Rattle.g9932.specs.Points.{point_of, negated, same_point}
use Rattle.g9932.specs.Refusals.{number_of, place_of, Verdict, accepted, refuse_if, and_then, room_test, seed_test, table_verdict}
use Rattle.g9932.specs.Sizes.{Tables, Point, origin, points}
use Rattle.g9932.specs.Symbol.{classes_of, first_monitored}
use Rattle.g9932.specs.declared.Clip.{Clip}
use Rattle.g9932.specs.declared.ClipTold.{ClipTold}
use Rattle.g9932.specs.declared.Refused.{Refused}
use Rattle.g9932.specs.declared.Clip.TheVariants.{Straight, Turned, Neither, CannotTell}

-- ---- which way round

-- Straight if its point is the one its filler bits give, turned if it is the opposite point, else neither.
abbrev pub clip_by : Bool → Bool → Clip
clip_by true opposite = Straight
clip_by false true = Turned
clip_by false false = Neither

abbrev pub clip_against : Point → Point → Clip
clip_against filler p = clip_by (same_point p filler) (same_point p (negated filler))

-- the point that the filler bits give a monitored tone at place k in t'
abbrev pub filler_point : Tables → ℕ → ℕ → Point
filler_point T r k = point_of 2 (drawn 2 (register_after r (take k (classes_of T))))

-- of the first monitored tone in t'; "can't tell" if no tone is monitored
abbrev pub clip_at : Tables → List Point → ℕ → Option ℕ → Clip
clip_at T q r (Some k) = clip_against (filler_point T r k) (get_or q k origin)
clip_at T q r None = CannotTell

unfoldable pub clip_of : Tables → List Point → ℕ → Clip
clip_of T q r = clip_at T q r (first_monitored T)

-- ---- the clip check uses 1 to 8, 10 and 12; its tables are coded

-- 10 and 12, for NSC tones; L is not told
unfoldable pub clip_inputs : ℕ → ℕ → ℕ → ℕ → Verdict
clip_inputs nsc x_length y_length r =
    refuse_if 10 (room_test x_length nsc || room_test y_length nsc)
    (refuse_if 12 (seed_test r)
    (accepted 0))

unfoldable pub clip_verdict : Tables → ℕ → ℕ → ℕ → Verdict
clip_verdict T x_length y_length r = and_then (table_verdict T) (clip_inputs (length T.tones) x_length y_length r)

-- number and place, which way round where nothing is refused, and the register, which always comes back as it was given
pub record ClipReport : Type 0 where
  pub number : ℕ
  pub place : ℕ
  pub clip : Option Clip
  pub register : ℕ

unfoldable pub clip_report_by : Verdict → Clip → ℕ → ClipReport
clip_report_by v c r = record { number = v.number; place = v.place; clip = cond (eqb v.number 0) (Some c) None; register = r }

abbrev pub clip_check : Tables → List ℤ → List ℤ → ℕ → ClipReport
clip_check T xs ys r = clip_report_by (clip_verdict T (length xs) (length ys) r) (clip_of T (points xs ys) r) r

abbrev pub clip_report_of : Result ClipTold Refused → ClipReport
clip_report_of (Ok a) = record { number = 0; place = 0; clip = Some a.clip; register = a.register }
clip_report_of (Err x) = record { number = number_of x.refusal; place = place_of x.refusal; clip = None; register = x.register }

-- the number of what is told, for C; 0, that of a refusal, is no clip's
abbrev pub clip_number : Option Clip → ℕ
clip_number None = 0
clip_number (Some Straight) = 1
clip_number (Some Turned) = 2
clip_number (Some Neither) = 3
clip_number (Some CannotTell) = 4
