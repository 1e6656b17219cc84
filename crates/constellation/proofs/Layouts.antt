-- What a layout holds, and the table of the layouts.
use native.Mathlib.Omega.{arith}
use Prim.Native.Nat.{ℕ, suc, zero, ◌+◌, ◌-◌, ◌*◌, ◌/◌, ◌%◌, ◌^◌, ◌≤◌}
use mathlib.Core.Bool.{cond}
use mathlib.Core.Path.{◌≡◌, refl, sym, ap, ◌∙◌}
use lib.Bits.{bit_and}
use lib.Dec.{ltb}
use lib.ListN.{get_or}
use lib.Pow.{pow-add}
use Rattle.g9932.specs.Bits.{first}
use Rattle.g9932.proofs.Lists.{values_at}
use Rattle.constellation.specs.Layouts.{lower, upper, layout_of, layout_list}
use Rattle.constellation.specs.Widened.{plain_pairs}
use Rattle.constellation.proofs.Mapping.{rule}

pub record Holds (b : ℕ) : Type 0 where
  pub upper_is : upper (layout_of b) ≡ 2 ^ plain_pairs b
  pub lower_is : lower (layout_of b) ≡ 2 ^ (6 - plain_pairs b)
  pub one : layout_of b / 32768 ≡ cond (ltb b 2) 1 0
  pub not_silent : bit_and (layout_of b / 32768) (layout_of b / 128 % 2) ≡ 0

pub holds : (b : ℕ) → 1 ≤ b → b ≤ 15 → Holds b
unfolding first
holds zero l m = absurd (omega arith)
holds (suc j) l m =
    record {
      upper_is = rule (λ j. upper (layout_of (suc j))) (λ j. 2 ^ plain_pairs (suc j)) 15 refl j (omega arith);
      lower_is = rule (λ j. lower (layout_of (suc j))) (λ j. 2 ^ (6 - plain_pairs (suc j))) 15 refl j (omega arith);
      one = rule (λ j. layout_of (suc j) / 32768) (λ j. cond (ltb (suc j) 2) 1 0) 15 refl j (omega arith);
      not_silent = rule (λ j. bit_and (layout_of (suc j) / 32768) (layout_of (suc j) / 128 % 2)) (λ j. 0) 15 refl j (omega arith);
    }

-- a power of two moves one coordinate, its square both
pub square : (k : ℕ) → 2 ^ k * 2 ^ k ≡ 2 ^ (2 * k)
square k = let e : k + k ≡ 2 * k = omega arith in sym (pow-add 2 k k) ∙ ap (λ (n : ℕ). 2 ^ n) e

pub layout_at : (b : ℕ) → 1 ≤ b → b ≤ 15 → get_or layout_list b 0 ≡ layout_of b
layout_at zero l m = absurd (omega arith)
layout_at (suc j) l m = values_at layout_of 1 15 j (omega arith) ∙ ap layout_of (let e : 1 + j ≡ suc j = omega arith in e)
