-- A loop that writes two numbers a place: each place before i has its own.
use Prim.Native.Nat.{ℕ, ◌+◌, ◌≤◌, ◌<◌}
use native.Mathlib.Omega.{arith}
use borrow.Author.Count.{below_more}
use mathlib.Core.List.{List}
use mathlib.Core.Path.{◌≡◌, refl, ◌∙◌}
use lib.Ieee.{Float, nan}
use lib.ListN.{length, get_or, set, length-set}
use lib.Seq.{get_or-set_same, get_or-set_other}

pub record Putting (P : ℕ → Float → Float → Type 0) (xs₀ xs ys : List Float) (i : ℕ) : Type 0 where
  pub xs_length : length xs ≡ length xs₀
  pub ys_length : length ys ≡ length xs₀
  pub numbers : (j : ℕ) → j < i → P j (get_or xs j nan) (get_or ys j nan)

pub put_start : (P : ℕ → Float → Float → Type 0) (xs ys : List Float) → length ys ≡ length xs → Putting P xs xs ys 0
put_start P xs ys n = record { xs_length = refl; ys_length = n; numbers = λ j h. absurd (omega arith) }

module _ {P : ℕ → Float → Float → Type 0} {xs₀ xs ys : List Float} {i : ℕ} (g : Putting P xs₀ xs ys i) where
  pub put_step : i < length xs₀ → (x y : Float) → P i x y → Putting P xs₀ (set xs i x) (set ys i y) (i + 1)
  put_step h x y here =
      record {
        xs_length = length-set xs i x ∙ g.xs_length;
        ys_length = length-set ys i y ∙ g.ys_length;
        numbers = below_more (λ j. P j (get_or (set xs i x) j nan) (get_or (set ys i y) j nan)) i
            (λ j k. rw (get_or-set_other xs i j x nan (λ e. absurd (omega arith)), get_or-set_other ys i j y nan (λ e. absurd (omega arith))) (g.numbers j k))
            (rw (get_or-set_same xs i x nan (omega (arith, g.xs_length)), get_or-set_same ys i y nan (omega (arith, g.ys_length))) here);
      }

  pub put_end : length xs₀ ≤ i → (j : ℕ) → j < length xs → P j (get_or xs j nan) (get_or ys j nan)
  put_end h j l = g.numbers j (omega (arith, g.xs_length))
