-- The points of a symbol read: the places that 13 and 14 refuse, the pair that 15 refuses, and the verdict on them.
use Rattle.std.specs.Prelude.{None, Some, Ok, Err}
use Prim.Native.Nat.{ℕ, ◌≤◌}
use mathlib.Core.Bool.{Bool}
use mathlib.Core.List.{List, ◌++◌}
use mathlib.Core.Path.{◌≡◌, refl, ◌∙◌}
use native.Mathlib.Omega.{arith}
use lib.ListN.{length, take}
use lib.Seq.{length-take-le, get_or-take}
use Rattle.frame.specs.Written.{Framed}
use Rattle.g9932.specs.Bits.{zeros}
use Rattle.g9932.specs.Sizes.{Tables, pack, bytes_for, Point}
use Rattle.g9932.specs.Refusals.{refused, accepted}
use Rattle.g9932.specs.Filler.{register_after}
use Rattle.g9932.specs.Symbol.{classes_of, size_of, reading_in}
use Rattle.g9932.specs.Answers.{done, refused_with, verdict_of, break_in, frame_in, places_verdict, points_verdict}
use Rattle.g9932.specs.declared.Refusal.{Refusal}
use Rattle.g9932.proofs.Packed.{Bytes, bytes_pack, unpack_inj}
use Rattle.g9932.proofs.Verdicts.{found_here, found_past, and_refused, and_accepted, done_refused, done_accepted, report_refused, report_done}
use Rattle.passes.specs.ReadSymbol.{PlacesDone, ReadsPoints}

-- a buffer that begins with a frame has its bytes in front
pub framed_bytes : (start : ℕ) (x : List Bool) (buffer : List ℕ) (n : ℕ) → n ≡ bytes_for start (length x) → n ≤ length buffer
    → Framed start x buffer → Bytes buffer → take n buffer ≡ pack start x
framed_bytes start x buffer n e h framed bytes =
    let long : length (take n buffer) ≡ n = length-take-le n buffer h in
    let own : Bytes (take n buffer) = λ k i. rw (get_or-take n buffer k 0 (omega arith)) (bytes k (omega arith)) in
    unpack_inj (take n buffer) (pack start x) own (bytes_pack (bytes_for start (length x)) (zeros start ++ x)) (rw e framed)

-- a refusal keeps the frame
pub points_refused : (T : Tables) (q : List Point) (r : ℕ) (f : List ℕ) (start : ℕ) (x : Refusal) → verdict_of (Err x) ≡ points_verdict T q r → ReadsPoints T q r f start (Err (refused_with x r)) f
points_refused T q r f start x e = record { answer = report_refused x r _ e; frame_holds = done_refused x _ _ e }

module _ (T : Tables) (q : List Point) (r : ℕ) where
  -- what refuses a place refuses the points
  pub place_found : (x : Refusal) → verdict_of (Err x) ≡ places_verdict (classes_of T) q r → verdict_of (Err x) ≡ points_verdict T q r
  unfolding points_verdict
  place_found x e = and_refused x _ e

  module _ {s : ℕ} {labels : List ℕ} (p : PlacesDone (classes_of T) r q s labels) where
    pub break_found : (k : ℕ) → break_in (reading_in T q) ≡ Some k → refused 15 k ≡ points_verdict T q r
    unfolding points_verdict
    break_found k e = and_accepted 0 p.passed (found_here 15 _ e)

    pub points_done : (size : ℕ) → size ≡ size_of T → break_in (reading_in T q) ≡ None → (start : ℕ) (f out : List ℕ) → out ≡ pack start (frame_in (reading_in T q))
        → ReadsPoints T q r f start (Ok (done size s)) out
    unfolding points_verdict
    points_done size n none start f out o =
        let v : accepted (size_of T) ≡ points_verdict T q r = and_accepted 0 p.passed (found_past 15 none refl) in
        record {
          answer = rw (n, p.register_is) (report_done (size_of T) r (register_after r (classes_of T)) v);
          frame_holds = o ∙ done_accepted (size_of T) _ _ v;
        }
