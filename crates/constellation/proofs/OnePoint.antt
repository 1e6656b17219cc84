-- One point alone: the weight of its pairs, and the label that the tables leave.
use Rattle.std.specs.Prelude.{None}
use Rattle.std.proofs.Common.{int_eq}
use Rattle.std.specs.Bool.{then_some}
use Rattle.std.specs.Option.{option_map}
use native.Mathlib.Omega.{arith}
use Prim.Native.Nat.{ℕ, ◌+◌, ◌*◌, ◌%◌, ◌^◌, ◌≤◌, ◌<◌}
use mathlib.Core.Bool.{Bool, true, false, not, ◌&&◌, true≢false}
use mathlib.Core.Path.{◌≡◌, sym, ap, ◌∙◌}
use native.Mathlib.Nat.{one-mul, mod-eq_of_lt}
use borrow.Author.Tests.{not-false}
use lib.IntN.{ℤ}
use lib.Pow.{pow_pos, pow_mono}
use mir.Syntax.{w16}
use mir.Val.{SFits, to_z, of_z}
use mir.ValLaws.{to_z-of_z}
use Rattle.g9932.specs.Bits.{num, bits}
use Rattle.g9932.specs.Points.{label_of, same_point}
use Rattle.g9932.specs.Sizes.{Point, point}
use Rattle.g9932.proofs.Constellations.{points_equal, same_point_self, same_point→eq}
use Rattle.constellation.specs.Widened.{plain_pairs, sign_weight, coordinate_of, interleaved}
use Rattle.constellation.specs.Reading.{NarrowedWord, own_label, top_six, in_grid}
use Rattle.constellation.specs.DemapByLayout.{BitsOf}
use Rattle.constellation.proofs.Grid.{six_few, six_lt}
use Rattle.constellation.proofs.Reading.{interleaved_word, off_point, off_grid, on_grid}
use Rattle.constellation.proofs.Sizes.{word_16}

-- ---- numbers as the code's sixteen bits hold them

abbrev held : ℤ → ℤ
held z = to_z w16 (of_z w16 z)

pub held_bits : {h e : ℕ} (z : ℤ) → SFits w16 z → BitsOf h (held z) e → BitsOf h z e
held_bits z f b = rw (to_z-of_z w16 z f) at b

pub held_points : {r : Bool} (p q : Point) → SFits w16 p.px → SFits w16 p.py
    → r ≡ not (int_eq (held p.px) q.px && int_eq (held p.py) q.py) → r ≡ not (same_point p q)
held_points p q f g e = rw (to_z-of_z w16 p.px f, to_z-of_z w16 p.py g) at e ∙ ap not (points_equal p q)

-- the power of the pairs, as the code has it
abbrev pub power : ℕ → ℕ
power k = 1 * 2 ^ k % 65536

pub power_is : (k : ℕ) → k ≤ 6 → (power k ≡ 2 ^ k) × (1 ≤ power k) × (power k ≤ 64)
power_is k h =
    let most : 2 ^ k ≤ 64 = pow_mono {i = k} {j = 6} h in
    let e : power k ≡ 2 ^ k = ap (λ (n : ℕ). n % 65536) (one-mul (2 ^ k)) ∙ mod-eq_of_lt (omega arith) in
    (e, omega (arith, e, pow_pos k), omega (arith, e))

pub weight_is : (b k : ℕ) → k ≤ 6 → k ≡ plain_pairs b → 4 * power k ≡ sign_weight (plain_pairs b)
weight_is b k h pairs = ap (λ (n : ℕ). 4 * n) (power_is k h).0 ∙ ap sign_weight pairs

module _ (b k : ℕ) (x y : ℤ) (ex ey : ℕ) (low : 1 ≤ b) (high : b ≤ 15) (pairs : k ≡ plain_pairs b)
    (bx : BitsOf (4 * power k) x ex) (by : BitsOf (4 * power k) y ey) where
  few : k ≤ 6
  few = omega (arith, pairs)

  weight : 4 * power k ≡ sign_weight (plain_pairs b)
  weight = weight_is b k few pairs

  abbrev own : Point
  own = point (coordinate_of (4 * power k) ex) (coordinate_of (4 * power k) ey)

  -- another point than that of its bits has no label
  pub other : not (same_point own (point x y)) ≡ true → None ≡ option_map num (label_of b (point x y))
  other differ = off_point b x y low high (rw weight at bx) (rw weight at by) (rw weight at off)
    where
      off : own ≡ point x y → ⊥
      off s = true≢false (sym differ ∙ ap (λ (q : Point). not (same_point q (point x y))) s ∙ ap not (same_point_self (point x y)))

  module _ (w : ℕ) (word : w ≡ num (interleaved (bits 8 ex) (bits 8 ey))) where
    small : w < 2 ^ (4 + 2 * k)
    small =
        let bits = interleaved_word k ex ey few (rw (power_is k few).0 at bx.small) (rw (power_is k few).0 at by.small) in
        rw word bits

    pub word_small : w < 65536
    word_small = word_16 k w few small

    pub six_small : top_six k w < 64
    six_small = six_lt k w small

    pub zeros_below : b < 4 → top_six k w % 4 ≡ 0
    zeros_below h = rw (pairs, six_few b w h) (omega arith)

    -- its own label, where the grid has the word
    pub told : not (same_point own (point x y)) ≡ false → (on : Bool) → on ≡ in_grid b (top_six k w) → (n : ℕ) → NarrowedWord k w n
        → then_some on (own_label b n) ≡ option_map num (label_of b (point x y))
    told same on grid n back = go on grid
      where
        at : own ≡ point x y
        at = same_point→eq own (point x y) (not-false (same_point own (point x y)) same)

        go : (on : Bool) → on ≡ in_grid b (top_six k w) → then_some on (own_label b n) ≡ option_map num (label_of b (point x y))
        go true g = on_grid b x y low high (rw weight at bx) (rw weight at by) (rw weight at at) word (rw pairs at g) n (rw pairs at back)
        go false g = off_grid b x y low high (rw weight at bx) (rw weight at by) (rw weight at at) word (rw pairs at g)
