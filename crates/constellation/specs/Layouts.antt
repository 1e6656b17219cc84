-- A constellation as one number of sixteen bits, its layout: 2 ^ (6 - k) in bits 0 to 6 and 2 ^ k in bits 8 to 14, k being the pairs of
-- plain bits that its labels have; bit 7 where b is odd and at least 3; bit 15 where b is 1. A silent tone's has no pairs, and both of
-- the bits 7 and 15.
use Rattle.std.specs.Prelude.{ℕ, ◌+◌, ◌-◌, ◌*◌, ◌/◌, ◌%◌, ◌^◌, ◌≤◌, cond, List, ◌∷◌, ◌≡◌, ltb}
use Rattle.g9932.specs.Bits.{values_from}
use Rattle.g9932.specs.declared.Class.{Class}
use Rattle.g9932.specs.declared.Class.TheVariants.{Data, Monitored, Silent}
use Rattle.constellation.specs.Widened.{plain_pairs}

-- the powers that tell the pairs, and where a layout holds them
abbrev powers : ℕ → ℕ
powers k = 256 * 2 ^ k + 2 ^ (6 - k)

abbrev pub lower : ℕ → ℕ
lower s = s % 128

abbrev pub upper : ℕ → ℕ
upper s = s / 256 % 128

-- the marks of an odd b from 3 and of b = 1; a silent tone has both
abbrev odd_mark : ℕ
odd_mark = 128

abbrev one_mark : ℕ
one_mark = 32768

-- of b bits, 1 to 15
abbrev pub layout_of : ℕ → ℕ
layout_of b = powers (plain_pairs b) + cond (ltb b 2) one_mark (odd_mark * (b % 2))

abbrev pub silent_layout : ℕ
silent_layout = powers 0 + odd_mark + one_mark

-- the layout of a constellation, or a silent tone's
pub data ToneLayout (s : ℕ) : Type 0 where
  carries : (b : ℕ) → 1 ≤ b → b ≤ 15 → s ≡ layout_of b → ToneLayout s
  nothing : s ≡ silent_layout → ToneLayout s

-- of a tone: monitored ones have the 2-bit constellation
abbrev pub class_layout : Class → ℕ
class_layout (Data b) = layout_of b
class_layout Monitored = layout_of 2
class_layout Silent = silent_layout

-- by bit count; 0 bits have a silent tone's
abbrev pub layout_list : List ℕ
layout_list = silent_layout ∷ values_from layout_of 1 15
