-- Request R-1: the plain rule, by which a second mapper maps and reads. Labels are numbers here. `Points` has document 01's rule, and that
-- the two agree is shown once over the bit count.
use Rattle.std.specs.Prelude.{Option, None, Some}
use Rattle.std.specs.Prelude.{ℕ, zero, suc, ◌+◌, ◌*◌, ◌/◌, ◌%◌, ◌^◌, Bool, ◌||◌, cond, List, eqb, ℤ, pos, ◌+ℤ◌, ◌-ℤ◌, ◌*ℤ◌, get_or}
use Rattle.std.specs.Int.Signed.{shr_z}
use Rattle.g9932.specs.Answers.{OneTone, tone_refused, tone_done}
use Rattle.g9932.specs.Bits.{bits, num, first}
use Rattle.g9932.specs.Points.{one_points, even_point, three_points, odd_point, same_point}
use Rattle.g9932.specs.Refusals.{bit_count_test, label_test}
use Rattle.g9932.specs.Sizes.{Point, point, origin}

-- ---- "down to 2, 3 or 5 (and 1 on its own)": the smallest constellations, as document 01 has them

abbrev pub smallest : ℕ → Bool
smallest b = eqb b 1 || eqb b 2 || eqb b 3 || eqb b 5

-- b = 1 and b = 3: the points that it lists; b = 2: X is (v1 1), Y is (v0 1); b = 5: X is (Xc Xd v1 1), Y is (Yc Yd v0 1), by Table 10-3.
abbrev pub small_point : ℕ → ℕ → Point
small_point b l =
    cond (eqb b 1) (get_or one_points l origin)
    (cond (eqb b 2) (even_point (bits 2 l))
    (cond (eqb b 3) (get_or three_points l origin)
    (odd_point 5 (bits 5 l))))

-- ---- "label n at (X, Y) becomes labels 4n to 4n+3 on a two by two block"

-- "with 4n at (2X−1, 2Y−1)",
abbrev pub block_corner : Point → Point
block_corner p = point (pos 2 *ℤ p.px -ℤ pos 1) (pos 2 *ℤ p.py -ℤ pos 1)

-- "4n+1 above it, 4n+2 to its right, 4n+3 diagonal": points that are next to one another are 2 apart.
abbrev pub in_block : ℕ → Point → Point
in_block zero c = c
in_block (suc zero) c = point c.px (c.py +ℤ pos 2)
in_block (suc (suc zero)) c = point (c.px +ℤ pos 2) c.py
in_block (suc (suc (suc k))) c = point (c.px +ℤ pos 2) (c.py +ℤ pos 2)

-- "the map for b bits calling itself for b−2 bits"; 0 bits have no constellation
unfoldable pub plain_point : ℕ → ℕ → Point
plain_point zero l = origin
plain_point (suc zero) l = small_point 1 l
plain_point (suc (suc b)) l =
    cond (smallest (suc (suc b)))
    (small_point (suc (suc b)) l)
    (in_block (l % 4) (block_corner (plain_point b (l / 4))))

-- ---- "its reading direction too"

-- the label that has a point in one of the smallest constellations, looked for among all
abbrev pub small_label : ℕ → Point → Option ℕ
small_label b p = first (λ l. same_point (small_point b l) p) (2 ^ b)

-- The corner of the block that a coordinate is in: X is odd, so 2X − 1 is one more than a multiple of 4. `shr_z z m` is z/m, rounded down. An
-- even coordinate is 1 beside its corner, so it has no place in the block.
abbrev pub corner_at : ℤ → ℤ
corner_at z = pos 4 *ℤ shr_z z 4 +ℤ pos 1

abbrev pub corner_of : Point → Point
corner_of p = point (corner_at p.px) (corner_at p.py)

-- The corner tells the two lowest bits, as the place of the point in the block, if it has one,
abbrev pub low_label : Point → Option ℕ
low_label p = first (λ k. same_point (in_block k (corner_of p)) p) 4

-- and the point (X, Y) of n: the corner is (2X − 1, 2Y − 1).
abbrev pub of_block : Point → Point
of_block c = point (shr_z (c.px +ℤ pos 1) 2) (shr_z (c.py +ℤ pos 1) 2)

-- the label 4n + k, or none where n or k is missing
abbrev pub fourfold : Option ℕ → Option ℕ → Option ℕ
fourfold (Some n) (Some k) = Some (4 * n + k)
fourfold (Some n) None = None
fourfold None low = None

-- reading b bits calls itself for b − 2 bits, with the point of n
unfoldable pub plain_label : ℕ → Point → Option ℕ
plain_label zero p = None
plain_label (suc zero) p = small_label 1 p
plain_label (suc (suc b)) p =
    cond (smallest (suc (suc b)))
    (small_label (suc (suc b)) p)
    (fourfold (plain_label b (of_block (corner_of p))) (low_label p))

-- ---- the answers of an operation that maps or reads so: 16 and 13, in document 01's order

unfoldable pub plain_map : ℕ → ℕ → OneTone Point
plain_map b l = cond (label_test b l) (tone_refused 16) (tone_done (plain_point b l))

abbrev pub plain_found : Option ℕ → OneTone ℕ
plain_found (Some l) = tone_done l
plain_found None = tone_refused 13

unfoldable pub plain_read : ℕ → Point → OneTone ℕ
plain_read b p = cond (bit_count_test b) (tone_refused 16) (plain_found (plain_label b p))

-- ---- for the theorem: the label that document 01 has, as a number, or none

abbrev pub label_number : Option (List Bool) → Option ℕ
label_number (Some v) = Some (num v)
label_number None = None
