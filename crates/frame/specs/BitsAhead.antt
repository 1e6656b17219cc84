-- Bits that are got.
use Rattle.std.specs.Prelude.{◌≡◌, Bool, List, ℕ, ◌%◌, ◌^◌, ◌≤◌, take}
use Rattle.g9932.specs.Bits.{num}

-- a number whose 32 lowest bits are the first bits of a list, or 0 past its end
abbrev pub Ahead : ℕ → List Bool → Type 0
Ahead word l = (n : ℕ) → n ≤ 32 → word % 2 ^ n ≡ num (take n l)
