-- Filler bits at the places that draw: the places left, from the register now, end where all do.
use Rattle.std.specs.Prelude.{Option, None}
use Prim.Native.Nat.{ℕ, suc, ◌+◌, ◌*◌, ◌≤◌, ◌<◌}
use native.Mathlib.Numerals.{add-one}
use native.Mathlib.Omega.{arith}
use mathlib.Core.Bool.{not}
use mathlib.Core.List.{List}
use mathlib.Core.Path.{◌≡◌, refl, ◌∙◌}
use lib.ListN.{length, drop, set, length-set, length-drop, drop_of_length-le}
use lib.Seq.{drop-cons}
use Rattle.g9932.proofs.Words.{num_lt}
use Rattle.g9932.specs.Bits.{num, or_at}
use Rattle.g9932.specs.Filler.{drawn, after_draws}
use Rattle.g9932.specs.Sizes.{entry}
use Rattle.mapper.specs.Writing.{with_filler, SetsFiller}
use Rattle.mapper.specs.Reading.{passes_filler, wrong_filler, ChecksFiller}

pub drawn_small : (r : ℕ) → num (drawn 2 r) < 4
drawn_small r = num_lt (drawn 2 r)

-- ---- the register

pub record Drawing (ds : List ℕ) (r next k : ℕ) : Type 0 where
  pub inside : k ≤ length ds
  pub left : after_draws (2 * length (drop k ds)) next ≡ after_draws (2 * length ds) r

pub draw_start : (ds : List ℕ) (r : ℕ) → Drawing ds r r 0
draw_start ds r = record { inside = omega arith; left = refl }

module _ {ds : List ℕ} {r next k : ℕ} (g : Drawing ds r next k) where
  pub draw_step : k < length ds → (after : ℕ) → after ≡ after_draws 2 next → Drawing ds r after (k + 1)
  draw_step h after e =
      let n : 2 * length (drop k ds) ≡ suc (suc (2 * length (drop (k + 1) ds))) = omega (arith, length-drop k ds, length-drop (k + 1) ds) in
      record { inside = omega arith; left = rw e (rw n at g.left) }

  pub draw_end : length ds ≤ k → next ≡ after_draws (2 * length ds) r
  draw_end h = rw (drop_of_length-le ds h) at g.left

-- ---- labels set

pub record Filling (ds : List ℕ) (r : ℕ) (ls₀ ls : List ℕ) (next k : ℕ) : Type 0 where
  pub drawing : Drawing ds r next k
  pub labels_length : length ls ≡ length ls₀
  pub left : with_filler next (drop k ds) ls ≡ with_filler r ds ls₀

pub fill_start : (ds : List ℕ) (r : ℕ) (ls₀ : List ℕ) → Filling ds r ls₀ ls₀ r 0
fill_start ds r ls₀ = record { drawing = draw_start ds r; labels_length = refl; left = refl }

module _ {ds : List ℕ} {r : ℕ} {ls₀ ls : List ℕ} {next k : ℕ} (g : Filling ds r ls₀ ls next k) where
  pub fill_step : k < length ds → (l after : ℕ) → l ≡ num (drawn 2 next) → after ≡ after_draws 2 next → Filling ds r ls₀ (set ls (entry ds k) l) after (k + 1)
  fill_step h l after e d =
      record {
        drawing = draw_step g.drawing h after d;
        labels_length = length-set ls (entry ds k) l ∙ g.labels_length;
        left = rw (e, d, add-one) (rw (drop-cons ds k 0 h) at g.left);
      }

  pub fill_end : length ds ≤ k → SetsFiller ds r ls₀ next ls
  fill_end h = record { register_is = draw_end g.drawing h; labels_are = rw (drop_of_length-le ds h) at g.left }

-- ---- labels compared

pub record Checking (ds layouts : List ℕ) (r : ℕ) (ls : List ℕ) (monitor : Option ℕ) (next k : ℕ) : Type 0 where
  pub drawing : Drawing ds r next k
  pub left : wrong_filler next (drop k ds) layouts ls monitor ≡ wrong_filler r ds layouts ls None

pub check_start : (ds layouts : List ℕ) (r : ℕ) (ls : List ℕ) → Checking ds layouts r ls None r 0
check_start ds layouts r ls = record { drawing = draw_start ds r; left = refl }

module _ {ds layouts : List ℕ} {r : ℕ} {ls : List ℕ} {monitor : Option ℕ} {next k : ℕ} (g : Checking ds layouts r ls monitor next k) where
  pub check_step : k < length ds → (l after : ℕ) → l ≡ num (drawn 2 next) → after ≡ after_draws 2 next
      → Checking ds layouts r ls (or_at monitor (not (passes_filler (entry layouts (entry ds k)) (entry ls (entry ds k)) l)) (entry ds k)) after (k + 1)
  unfolding wrong_filler
  check_step h l after e d = record { drawing = draw_step g.drawing h after d; left = rw (e, d, add-one) (rw (drop-cons ds k 0 h) at g.left) }

  pub check_end : length ds ≤ k → ChecksFiller ds layouts r ls (record { monitor = monitor; register = next })
  unfolding wrong_filler
  check_end h = record { monitor_is = rw (drop_of_length-le ds h) at g.left; register_is = draw_end g.drawing h }
