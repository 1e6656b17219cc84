-- What a mask leaves.
use mathlib.Core.Path.{◌≡◌}
use mathlib.Core.List.{List}
use Prim.Native.Nat.{ℕ, ◌-◌, ◌%◌, ◌^◌, ◌<◌}
use native.Mathlib.Nat.{lt_of_lt_of_le, mod-lt}
use native.Mathlib.Omega.{arith}
use lib.ListN.{get_or}
use lib.Bits.{bit_and, and_mask}
use lib.Pow.{pow_pos, pow_mono}
use Rattle.g9932.proofs.Lists.{table_at}
use Rattle.frame.specs.Masks.{mask_list}

mask_at : (k : ℕ) → k < 16 → get_or mask_list k 0 ≡ 2 ^ k - 1
unfolding mask_list
mask_at k h = table_at (λ j. 2 ^ j - 1) 16 k h

pub mask_found : (masks : List ℕ) (k word : ℕ) → masks ≡ mask_list → k < 16
    → (bit_and word (get_or masks k 0) ≡ word % 2 ^ k) × (bit_and word (get_or masks k 0) < 32768)
mask_found masks k word hm h =
    let e : bit_and word (get_or masks k 0) ≡ word % 2 ^ k = rw (hm, mask_at k h) (and_mask word k) in
    (e, rw e (lt_of_lt_of_le (mod-lt word (pow_pos k)) (pow_mono {j = 15} (omega arith))))
