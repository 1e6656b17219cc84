-- The peak after several places, and the blocks that leave it as it is.
use Rattle.std.specs.Prelude.{Option, None, Some}
use Prim.Native.Nat.{ℕ, zero, suc, ◌+◌, ◌≤◌, ◌<◌}
use native.Mathlib.Omega.{arith}
use native.Mathlib.Numerals.{add-one}
use borrow.Author.Count.{below_more}
use borrow.Author.Tests.{le-ltb, ltb-false}
use mathlib.Core.Bool.{Bool, true, false, cond, ◌||◌}
use mathlib.Core.List.{List, [], ◌∷◌, ◌++◌, map}
use mathlib.Core.Path.{◌≡◌, refl, sym, ap, ◌∙◌}
use lib.Dec.{ltb}
use lib.Ieee.{Float, nan, lt, neg}
use lib.IntN.{ℤ, pos, negsuc, nat_abs}
use lib.ListN.{length, get_or, take, length-map}
use lib.Seq.{take-suc, take_all, length-take-le}
use Rattle.g9932.proofs.Identities.{or-false}
use Rattle.g9932.proofs.Over512.{lt_over, size_over}
use Rattle.g9932.specs.Drive.{over512, larger, size_at, whole_or, signal_of, x_of, y_of}
use Rattle.g9932.specs.Sizes.{Point, entry}
use Rattle.g9932.specs.declared.Peak.{Peak}
use Rattle.drive.specs.Peaks.{Most, peak_by, raise, carried, Raises, Lists, Carries, TellsAbove}

-- ---- over whole numbers

pub carried_append : (m : Most) (l s : List ℕ) (k : ℕ) → carried m (l ++ s) k ≡ carried (carried m l k) s (k + length l)
unfolding carried
carried_append m [] s k = let e : k ≡ k + 0 = omega arith in ap (carried m s) e
carried_append m (a ∷ l) s k = let e : suc k + length l ≡ k + suc (length l) = omega arith in carried_append (raise m a k) l s (suc k) ∙ ap (carried (carried (raise m a k) l (suc k)) s) e

carried_more : (m : Most) (l : List ℕ) (i k : ℕ) → i < length l → carried m (take (i + 1) l) k ≡ raise (carried m (take i l) k) (entry l i) (k + i)
unfolding carried
carried_more m l i k h =
    ap (λ (n : ℕ). carried m (take n l) k) (add-one i)
    ∙ ap (λ (s : List ℕ). carried m s k) (take-suc l i 0 h)
    ∙ carried_append m (take i l) (entry l i ∷ []) k
    ∙ ap (λ (n : ℕ). raise (carried m (take i l) k) (entry l i) (k + n)) (length-take-le i l (omega arith))

-- sizes that are not above the peak leave it
pub carried_stays : (m : Most) (l : List ℕ) (k : ℕ) → ((i : ℕ) → i < length l → entry l i ≤ m.most) → carried m l k ≡ m
unfolding carried
carried_stays m [] k h = refl
carried_stays m (s ∷ l) k h =
    let e : ltb m.most s ≡ false = le-ltb m.most s (h 0 (omega arith)) in
    rw e (carried_stays m l (suc k) (λ i j. h (suc i) (omega arith)))

-- ---- of the lists' numbers

size_of_place : (w : Option Point) → larger (nat_abs (whole_or w).px) (nat_abs (whole_or w).py) ≡ size_at w
size_of_place (Some w) = refl
size_of_place None = refl

x_of_place : (w : Option Point) → x_of (signal_of w) ≡ over512 (whole_or w).px
x_of_place (Some w) = refl
x_of_place None = refl

y_of_place : (w : Option Point) → y_of (signal_of w) ≡ over512 (whole_or w).py
y_of_place (Some w) = refl
y_of_place None = refl

pub mapped_at : {A B : Type 0} (f : A → B) (l : List A) (i : ℕ) (a : A) (b : B) → i < length l → get_or (map f l) i b ≡ f (get_or l i a)
mapped_at f [] i a b h = absurd (omega arith)
mapped_at f (x ∷ l) zero a b h = refl
mapped_at f (x ∷ l) (suc i) a b h = mapped_at f l i a b (omega arith)

module _ {ws : List (Option Point)} {xs ys : List Float} (l : Lists ws xs ys) where
  pub lists_length : length xs ≡ length ws
  lists_length = ap length l.xs_are ∙ length-map ws _

  module _ (i : ℕ) (h : i < length ws) where
    pub x_at : get_or xs i nan ≡ over512 (whole_or (get_or ws i None)).px
    x_at = ap (λ (z : List Float). get_or z i nan) l.xs_are ∙ mapped_at (λ w. x_of (signal_of w)) ws i None nan h ∙ x_of_place (get_or ws i None)

    pub y_at : get_or ys i nan ≡ over512 (whole_or (get_or ws i None)).py
    y_at = ap (λ (z : List Float). get_or z i nan) l.ys_are ∙ mapped_at (λ w. y_of (signal_of w)) ws i None nan h ∙ y_of_place (get_or ws i None)

    pub size_at_lem : larger (nat_abs (whole_or (get_or ws i None)).px) (nat_abs (whole_or (get_or ws i None)).py) ≡ entry (map size_at ws) i
    size_at_lem = size_of_place (get_or ws i None) ∙ sym (mapped_at size_at ws i None 0 h)

-- ---- the loop that carries the peak

pub record CarriedTo (peak₀ : Peak) (xs ys : List Float) (from : ℕ) (peak : Peak) (i : ℕ) : Type 0 where
  pub before : (m : Most) (ws : List (Option Point)) → peak₀ ≡ peak_by m → Lists ws xs ys → peak ≡ peak_by (carried m (take i (map size_at ws)) from)

pub carry_start : (peak : Peak) (xs ys : List Float) (from : ℕ) → CarriedTo peak xs ys from peak 0
unfolding carried
carry_start peak xs ys from = record { before = λ m ws e l. e }

module _ {peak₀ : Peak} {xs ys : List Float} {from : ℕ} {peak : Peak} {i : ℕ} (g : CarriedTo peak₀ xs ys from peak i) where
  pub carry_step : i < length xs → {r : Peak} → Raises peak (get_or xs i nan) (get_or ys i nan) (from + i) r → CarriedTo peak₀ xs ys from r (i + 1)
  carry_step h {r} up = record {
    before = λ m ws e l.
        let j : i < length ws = omega (arith, lists_length l) in
        up.raised_is _ _ _ (g.before m ws e l) (x_at l i j) (y_at l i j)
        ∙ ap peak_by (ap (λ (s : ℕ). raise (carried m (take i (map size_at ws)) from) s (from + i)) (size_at_lem l i j)
        ∙ sym (carried_more m (map size_at ws) i from (omega (arith, length-map ws size_at))));
  }

  pub carry_end : length xs ≤ i → Carries peak₀ xs ys from peak
  carry_end h = record {
    carried_is = λ m ws e l.
        g.before m ws e l ∙ ap (λ (s : List ℕ). peak_by (carried m s from)) (take_all i (map size_at ws) (omega (arith, length-map ws size_at, lists_length l)));
  }

-- ---- the loop that looks for a larger one

pub record ToldTo (xs ys : List Float) (size : Float) (above : Bool) (i : ℕ) : Type 0 where
  pub before : (n : ℕ) (ws : List (Option Point)) → size ≡ over512 (pos n) → Lists ws xs ys → above ≡ false → (j : ℕ) → j < i → entry (map size_at ws) j ≤ n

pub told_start : (xs ys : List Float) (size : Float) → ToldTo xs ys size false 0
told_start xs ys size = record { before = λ n ws s l e j h. absurd (omega arith) }

-- a number that is not above n, with either sign
not_above : {size v : Float} (n : ℕ) (z : ℤ) → size ≡ over512 (pos n) → v ≡ over512 z → lt size v ≡ false → lt size (neg v) ≡ false → nat_abs z ≤ n
not_above n (pos k) s e p q = ltb-false n k (sym (lt_over n k) ∙ rw (s, e) at p)
not_above n (negsuc k) s e p q = ltb-false n (suc k) (sym (lt_over n (suc k)) ∙ rw (s, e, size_over k) at q)

larger_le : (a b n : ℕ) → a ≤ n → b ≤ n → larger a b ≤ n
larger_le a b n p q = go (ltb a b)
  where
    go : (t : Bool) → cond t b a ≤ n
    go true = q
    go false = p

module _ {xs ys : List Float} {size : Float} {above : Bool} {i : ℕ} (g : ToldTo xs ys size above i) where
  pub told_step : i < length xs
      → ToldTo xs ys size (above || (((lt size (get_or xs i nan) || lt size (neg (get_or xs i nan))) || lt size (get_or ys i nan)) || lt size (neg (get_or ys i nan)))) (i + 1)
  told_step h = record {
    before = λ n ws s l e.
        let k : i < length ws = omega (arith, lists_length l) in
        let o = or-false above _ e in
        let d = or-false _ _ o.1 in
        let c = or-false _ _ d.0 in
        let b = or-false _ _ c.0 in
        below_more (λ j. entry (map size_at ws) j ≤ n) i (g.before n ws s l o.0)
        (rw (← (size_at_lem l i k)) (larger_le _ _ n (not_above n _ s (x_at l i k) b.0 b.1) (not_above n _ s (y_at l i k) c.1 d.1)));
  }

  pub told_end : length xs ≤ i → TellsAbove xs ys size above
  told_end h = record { none = λ n ws s l e j k. g.before n ws s l e j (omega (arith, lists_length l)) }

-- ---- a block that is passed over

pub passed_over : {peak : Peak} {xs ys : List Float} (from : ℕ) → TellsAbove xs ys peak.size false → Carries peak xs ys from peak
passed_over from t = record {
  carried_is = λ m ws e l.
      e ∙ ap peak_by (sym (carried_stays m (map size_at ws) from (λ i h. t.none m.most ws (ap (λ (p : Peak). p.size) e) l refl i (omega (arith, length-map ws size_at)))));
}
