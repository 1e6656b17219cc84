-- The top bits of a word and of its label by plain bit operations: each fact is one test of all top six bits.
use Prim.Native.Nat.{ℕ, zero, suc, ◌+◌, ◌*◌, ◌/◌, ◌%◌, ◌≤◌, ◌<◌}
use mathlib.Core.Bool.{Bool, true, false, cond}
use mathlib.Core.Path.{◌≡◌, refl, sym, ap, ◌∙◌}
use native.Mathlib.Omega.{arith}
use borrow.Author.Tests.{leb-false, ltb-true}
use lib.Bits.{bit_and, bit_or, bit_xor}
use lib.Dec.{eqb, ltb, leb}
use Rattle.g9932.specs.Bits.{first}
use Rattle.g9932.proofs.Search.{first_no}
use Rattle.constellation.specs.Widened.{top_five, top_four, widened_label}
use Rattle.constellation.specs.Reading.{in_grid}
use Rattle.constellation.specs.Layouts.{layout_of}
use Rattle.constellation.specs.DemapByLayout.{TopsBy}
use Rattle.constellation.proofs.Grid.{bit_rule}
use Rattle.constellation.proofs.Mapping.{rule}

-- ---- as the code has it: s is the top six bits

abbrev x_sign : ℕ → ℕ
x_sign s = s / 32

abbrev y_sign : ℕ → ℕ
y_sign s = s / 16 % 2

abbrev x_next : ℕ → ℕ
x_next s = s / 8 % 2

abbrev y_next : ℕ → ℕ
y_next s = s / 4 % 2

abbrev x_outer : ℕ → ℕ
x_outer s = bit_xor (bit_xor (x_sign s) (x_next s)) 1

abbrev y_outer : ℕ → ℕ
y_outer s = bit_xor (bit_xor (y_sign s) (y_next s)) 1

abbrev outer : ℕ → ℕ
outer s = bit_or (x_outer s) (y_outer s)

abbrev high : ℕ → ℕ
high s = bit_xor (x_next s) (bit_and (x_outer s) (bit_xor (x_next s) (y_next s)))

abbrev low : ℕ → ℕ
low s = bit_xor (y_next s) (bit_and (y_outer s) (bit_xor (bit_xor (x_next s) (y_next s)) 1))

abbrev three : ℕ → ℕ
three s = bit_or (outer s * 4 % 65536) (bit_or (high s * 2 % 65536) (low s))

abbrev x_near : ℕ → ℕ → ℕ
x_near layout s = cond (eqb (layout / 256 % 128) 1) (y_next s) (bit_xor (s / 2 % 2) 1)

abbrev y_near : ℕ → ℕ → ℕ
y_near layout s = cond (eqb (layout / 256 % 128) 1) (bit_xor (x_next s) 1) (bit_xor (s % 2) 1)

-- 0 where the constellation has such a word
abbrev off : ℕ → ℕ → ℕ → ℕ → ℕ
off layout s x y =
    bit_or
    (bit_or (bit_or (bit_and (x_outer s) (bit_xor x (x_sign s))) (bit_and (y_outer s) (bit_xor y (y_sign s)))) (bit_and (x_outer s) (y_outer s)))
    (bit_or (bit_and (outer s) (bit_xor (layout / 128 % 2) 1)) (bit_and (layout / 32768) (bit_xor (high s) (low s))))

-- ---- the top three bits of the label

three_few : (s : ℕ) → s < 64 → three s < 8
unfolding first
three_few s h = leb-false 8 (three s) (first_no (λ s. leb 8 (three s)) 64 refl s h)

three_four : (s : ℕ) → s < 64 → three s ≡ three (4 * (s / 4))
unfolding first
three_four = rule three (λ s. three (4 * (s / 4))) 64 refl

three_back : (q : ℕ) → q < 32 → three (4 * top_four q) ≡ q / 4
unfolding first top_four
three_back = rule (λ q. three (4 * top_four q)) (λ q. q / 4) 32 refl

-- ---- the grid: every bit count from 1, and every top six that a word can have

abbrev grid : ℕ → ℕ → Bool
grid b s = eqb (off (layout_of b) s (x_near (layout_of b) s) (y_near (layout_of b) s)) 0

-- words of up to three bits have two zeros there
abbrev six_at : ℕ → ℕ → ℕ
six_at b s = cond (ltb b 4) (4 * (s / 4)) s

abbrev grid_at : ℕ → Bool
grid_at n = grid (suc (n / 64)) (six_at (suc (n / 64)) (n % 64))

abbrev in_grid_at : ℕ → Bool
in_grid_at n = in_grid (suc (n / 64)) (six_at (suc (n / 64)) (n % 64))

grid_test : (n : ℕ) → n < 960 → grid_at n ≡ in_grid_at n
unfolding first top_five top_four widened_label in_grid
grid_test = bit_rule grid_at in_grid_at 960 refl

grid_is : (b s : ℕ) → 1 ≤ b → b ≤ 15 → s < 64 → (b < 4 → s % 4 ≡ 0) → grid b s ≡ in_grid b s
grid_is zero s l m h z = absurd (omega arith)
grid_is (suc j) s l m h z =
    let hi : (64 * j + s) / 64 ≡ j = omega arith in
    let lo : (64 * j + s) % 64 ≡ s = omega arith in
    rw (hi, lo, at (ltb (suc j) 4) refl) at (grid_test (64 * j + s) (omega arith))
  where
    at : (c : Bool) → ltb (suc j) 4 ≡ c → six_at (suc j) s ≡ s
    at true e = let k = z (ltb-true (suc j) 4 e) in rw e (omega arith)
    at false e = rw e

pub tops_law : (layout s x y : ℕ) → s < 64 → x ≡ x_near layout s → y ≡ y_near layout s → TopsBy layout s (eqb (off layout s x y) 0) (three s)
tops_law layout s x y h ex ey =
    record {
      small = three_few s h;
      three_is = λ q l e. three_four s h ∙ ap (λ (n : ℕ). three (4 * n)) (sym e) ∙ three_back q l;
      on_is = λ b l m e z. rw (ex, ey, e) (grid_is b s l m h z);
    }
