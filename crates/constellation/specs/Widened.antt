-- What the code computes: a label made a word in which the bits of X and Y stand in turn.
-- An even b has the points of b + 1 whose label has the top bit 0, and b = 1 those of b = 3 for the labels 0 and 3. So every label is
-- one of an odd bit count from 3: three top bits above pairs of plain bits, which are bits of X and Y already.
use Rattle.std.specs.Prelude.{ℕ, zero, suc, ◌+◌, ◌-◌, ◌*◌, ◌/◌, ◌%◌, ◌^◌, Bool, cond, List, [], ◌∷◌, ltb, ℤ, get_or}
use Rattle.std.proofs.Math.IntN.{sub_ℕ}
use Rattle.g9932.specs.Bits.{bits, num}
use Rattle.g9932.specs.Points.{evens, odds, table10_3}

-- how many pairs of plain bits a label has
abbrev pub plain_pairs : ℕ → ℕ
plain_pairs b = b / 2 - 1

-- the label of an odd bit count from 3 that has the same point
abbrev pub mapping_label : ℕ → ℕ → ℕ
mapping_label b l = cond (ltb b 2) (3 * l) l

-- the top five bits of a label with k pairs; where it has three bits only, the complement of the lowest two stands below them
unfoldable pub top_five : ℕ → ℕ → ℕ
top_five zero l = 4 * l + (3 - l % 4)
top_five (suc j) l = l / 2 ^ (2 * j)

-- Table 10-3 by the top five bits, in turn: Xc Yc Xd Yd, Xc and Yc complemented
abbrev crossed : ℕ → ℕ
crossed t = 8 * (1 - t / 8) + 4 * (1 - t / 2 % 2) + 2 * (t / 4 % 2) + t % 2

unfoldable pub top_four : ℕ → ℕ
top_four q = crossed (get_or table10_3 q 0)

-- the bits of X and Y in turn, Y's first, each with its sign bit complemented and without its last bit, which is 1
unfoldable pub widened_label : ℕ → ℕ → ℕ
widened_label k l = top_four (top_five k l) * 2 ^ (2 * k) + l % 2 ^ (2 * k)

-- the word of a label of b bits
abbrev pub label_word : ℕ → ℕ → ℕ
label_word b l = widened_label (plain_pairs b) (mapping_label b l)

-- the bits of X and of Y in a word
abbrev pub x_bits : ℕ → ℕ
x_bits w = num (odds (bits 16 w))

abbrev pub y_bits : ℕ → ℕ
y_bits w = num (evens (bits 16 w))

-- and the word of such bits
abbrev pub interleaved : List Bool → List Bool → List Bool
interleaved [] ys = []
interleaved (x ∷ xs) [] = []
interleaved (x ∷ xs) (y ∷ ys) = y ∷ x ∷ interleaved xs ys

-- the weight of a coordinate's sign bit: below it stand a bit of each pair, Xd, and the last bit
abbrev pub sign_weight : ℕ → ℕ
sign_weight k = 4 * 2 ^ k

-- the coordinate of bits whose sign bit is complemented
abbrev pub coordinate_of : ℕ → ℕ → ℤ
coordinate_of h e = sub_ℕ (2 * e + 1) h
