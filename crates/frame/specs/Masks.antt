-- The table of masks.
use Rattle.std.specs.Prelude.{ℕ, ◌-◌, ◌^◌, List}
use Rattle.g9932.specs.Bits.{values_from}

-- k ones at k
unfoldable pub mask_list : List ℕ
mask_list = values_from (λ k. 2 ^ k - 1) 0 16
