-- What is driven, place by place, and the promise of driving from its equations.
use Rattle.std.specs.Prelude.{Option, None, Some, Result}
use Prim.Native.Nat.{ℕ, zero, suc, ◌-◌, ◌^◌, ◌≤◌, ◌<◌}
use mathlib.Core.Bool.{Bool, true, false, cond}
use mathlib.Core.List.{List, [], ◌∷◌, map}
use mathlib.Core.Path.{◌≡◌, refl, sym, ap, ◌∙◌}
use native.Mathlib.Omega.{arith}
use borrow.Author.Tests.{eq-eqb}
use lib.Dec.{eqb}
use lib.Ieee.{Float, nan}
use lib.IntN.{pos, neg_ℤ, nat_abs}
use lib.ListN.{length, get_or, take, drop, length-map, length-drop}
use lib.Seq.{length-take-le}
use Rattle.g9932.specs.Answers.{on_done, encode_verdict}
use Rattle.g9932.specs.Bits.{num, weight}
use Rattle.g9932.specs.Drive.{over512, whole_at, wholes_by, gains_of, driven_wholes, signal_of, x_of, y_of, largest, peak_of, drive_report_of, peak_if, drive_at, whole_or, Drives}
use Rattle.g9932.specs.Filler.{drawn, after_draws, draws}
use Rattle.g9932.specs.Points.{sign_bit, twos_complement, point_of}
use Rattle.g9932.specs.Refusals.{Verdict}
use Rattle.g9932.specs.Sizes.{Tables, Point, origin, entry}
use Rattle.g9932.specs.Symbol.{classes_of, reordered_tones_of, load, tone_point, write_points, written_points}
use Rattle.g9932.specs.declared.Class.{Class}
use Rattle.g9932.specs.declared.Class.TheVariants.{Data, Monitored, Silent}
use Rattle.g9932.specs.declared.Drive.{Drive}
use Rattle.g9932.specs.declared.Refused.{Refused}
use Rattle.g9932.specs.declared.Peak.{Peak}
use Rattle.g9932.proofs.Constellations.{point_coords}
use Rattle.g9932.proofs.Coordinates.{coords}
use Rattle.g9932.proofs.Over512.{times_over}
use Rattle.g9932.proofs.Sent.{length_classes}
use Rattle.g9932.proofs.Symbols.{loads, length_write}
use Rattle.g9932.proofs.Words.{num_lt}

-- ---- place by place

pub length_wholes : (cs : List Class) (gs : List ℕ) (ps : List Point) → length gs ≡ length cs → length ps ≡ length cs → length (wholes_by cs gs ps) ≡ length cs
unfolding wholes_by
length_wholes [] gs ps m n = refl
length_wholes (c ∷ cs) [] ps m n = absurd (omega arith)
length_wholes (c ∷ cs) (g ∷ gs) [] m n = absurd (omega arith)
length_wholes (c ∷ cs) (g ∷ gs) (p ∷ ps) m n = ap suc (length_wholes cs gs ps (omega arith) (omega arith))

pub whole_at_lem : (cs : List Class) (gs : List ℕ) (ps : List Point) → length gs ≡ length cs → length ps ≡ length cs → (k : ℕ) → k < length cs
    → get_or (wholes_by cs gs ps) k None ≡ whole_at (get_or cs k Silent) (entry gs k) (get_or ps k origin)
unfolding wholes_by
whole_at_lem [] gs ps m n k h = absurd (omega arith)
whole_at_lem (c ∷ cs) [] ps m n k h = absurd (omega arith)
whole_at_lem (c ∷ cs) (g ∷ gs) [] m n k h = absurd (omega arith)
whole_at_lem (c ∷ cs) (g ∷ gs) (p ∷ ps) m n zero h = refl
whole_at_lem (c ∷ cs) (g ∷ gs) (p ∷ ps) m n (suc k) h = whole_at_lem cs gs ps (omega arith) (omega arith) k (omega arith)

pub length_gains : (T : Tables) → length (gains_of T) ≡ length (classes_of T)
length_gains T = length-map (reordered_tones_of T) _ ∙ sym (length-map (reordered_tones_of T) _)

length_written : (T : Tables) (r start : ℕ) (f : List ℕ) → length (written_points T r start f) ≡ length (classes_of T)
unfolding written_points
length_written T r start f = length_write r (classes_of T) _

pub driven_count : (T : Tables) (r start : ℕ) (f : List ℕ) → length (driven_wholes T r start f) ≡ length T.tones
unfolding driven_wholes
driven_count T r start f = length_wholes (classes_of T) (gains_of T) (written_points T r start f) (length_gains T) (length_written T r start f) ∙ length_classes T

pub driven_at : (T : Tables) (r start : ℕ) (f : List ℕ) (k : ℕ) → k < length (classes_of T)
    → get_or (driven_wholes T r start f) k None ≡ whole_at (get_or (classes_of T) k Silent) (entry (gains_of T) k) (get_or (written_points T r start f) k origin)
unfolding driven_wholes
driven_at T r start f = whole_at_lem (classes_of T) (gains_of T) (written_points T r start f) (length_gains T) (length_written T r start f)

-- the numbers of a place are 512ths of its whole numbers
pub x_of_place : (w : Option Point) → x_of (signal_of w) ≡ over512 (whole_or w).px
x_of_place (Some w) = refl
x_of_place None = refl

pub y_of_place : (w : Option Point) → y_of (signal_of w) ≡ over512 (whole_or w).py
y_of_place (Some w) = refl
y_of_place None = refl

pub mapped_at : {A B : Type 0} (f : A → B) (l : List A) (i : ℕ) (a : A) (b : B) → i < length l → get_or (map f l) i b ≡ f (get_or l i a)
mapped_at f [] i a b h = absurd (omega arith)
mapped_at f (x ∷ l) zero a b h = refl
mapped_at f (x ∷ l) (suc i) a b h = mapped_at f l i a b (omega arith)

-- ---- coordinates are odd, so those of a tone that is driven are not 0

abs_neg : (n : ℕ) → nat_abs (neg_ℤ (pos n)) ≡ n
abs_neg zero = refl
abs_neg (suc n) = refl

axis_above : (l : List Bool) → 1 ≤ nat_abs (twos_complement (true ∷ l))
unfolding twos_complement num weight
axis_above l = go (sign_bit (true ∷ l))
  where
    go : (s : Bool) → 1 ≤ nat_abs (cond s (neg_ℤ (pos (2 ^ length (true ∷ l) - num (true ∷ l)))) (pos (num (true ∷ l))))
    go true = omega (arith, abs_neg (2 ^ length (true ∷ l) - num (true ∷ l)), num_lt (true ∷ l))
    go false = omega arith

abbrev pub OffAxes : Point → Type 0
OffAxes p = (1 ≤ nat_abs p.px) × (1 ≤ nat_abs p.py)

point_off : (b : ℕ) (v : List Bool) → length v ≡ b → OffAxes (point_of b v)
point_off b v l =
    let e : point_of b v ≡ point_of (length v) v = ap (λ (n : ℕ). point_of n v) (sym l) in
    rw (e, point_coords v) (axis_above (coords v).xs, axis_above (coords v).ys)

-- a driven tone's point is off both axes, and a silent one's is the origin
abbrev pub PointFits : Class → Point → Type 0
PointFits (Data n) p = OffAxes p
PointFits Monitored p = OffAxes p
PointFits Silent p = p ≡ origin

tone_fits : (r : ℕ) (c : Class) (d : List Bool) → load c ≤ length d → PointFits c (tone_point r c d)
tone_fits r (Data n) d l = point_off n (take n d) (length-take-le n d l)
tone_fits r Monitored d l = point_off 2 (drawn 2 r) refl
tone_fits r Silent d l = refl

pub points_fit : (r : ℕ) (cs : List Class) (d : List Bool) → length d ≡ loads cs → (k : ℕ) → k < length cs → PointFits (get_or cs k Silent) (get_or (write_points r cs d) k origin)
unfolding write_points
points_fit r [] d l k h = absurd (omega arith)
points_fit r (c ∷ cs) d l zero h = tone_fits r c d (omega arith)
points_fit r (c ∷ cs) d l (suc k) h = points_fit (after_draws (draws c) r) cs (drop (load c) d) (simp length-drop (omega arith)) k (omega arith)

-- ---- the promise from its equations

peak_if_lem : (v : Verdict) (ws : List (Option Point)) (p : Peak) → peak_if v ws ≡ Some p → p ≡ peak_of ws
unfolding peak_if
peak_if_lem v ws p = go (eqb v.number 0)
  where
    given : Option Peak → Peak
    given (Some q) = q
    given None = peak_of ws

    go : (b : Bool) → cond b (Some (peak_of ws)) None ≡ Some p → p ≡ peak_of ws
    go true e = sym (ap given e)
    go false e = sym (ap given e)

module _ {T : Tables} {start : ℕ} {f : List ℕ} {r : ℕ} {xs ys : List Float} {a : Result Drive Refused} {xs_after ys_after : List Float} where
  pub drives_by : drive_report_of a ≡ (drive_at T start f r xs ys).told → xs_after ≡ (drive_at T start f r xs ys).xs → ys_after ≡ (drive_at T start f r xs ys).ys
      → Drives T start f r xs ys a xs_after ys_after
  unfolding on_done
  drives_by answer xs_hold ys_hold =
      record {
        answer = answer;
        xs_hold = xs_hold;
        ys_hold = ys_hold;
        exact = λ ok k h. (
          rw (at xs xs_after (λ w. x_of (signal_of w)) xs_hold ok k h ∙ x_of_place (get_or ws k None)) (times_over (whole_or (get_or ws k None)).px),
          rw (at ys ys_after (λ w. y_of (signal_of w)) ys_hold ok k h ∙ y_of_place (get_or ws k None)) (times_over (whole_or (get_or ws k None)).py),
        );
        exact_peak = λ p e. rw (peak_if_lem v ws p (sym (ap (λ d. d.peak) answer) ∙ e)) (times_over (pos (largest ws)));
      }
    where
      v : Verdict
      v = encode_verdict T start f r (length xs) (length ys)

      ws : List (Option Point)
      ws = driven_wholes T r start f

      at : (l after : List Float) (g : Option Point → Float) → after ≡ on_done v (map g ws) l → v.number ≡ 0 → (k : ℕ) → k < length T.tones → get_or after k nan ≡ g (get_or ws k None)
      at l after g e ok k h =
          ap (λ (z : List Float). get_or z k nan) (e ∙ ap (λ (b : Bool). cond b (map g ws) l) (eq-eqb v.number 0 ok))
          ∙ mapped_at g ws k None nan (omega (arith, driven_count T r start f))
