-- The 32 words of Table 10-3 and the points of five bits: a computed test each.
use Prim.Native.Nat.{ℕ, ◌+◌, ◌*◌, ◌/◌, ◌%◌, ◌<◌}
use mathlib.Core.Bool.{Bool, not}
use mathlib.Core.Path.{◌≡◌, refl}
use borrow.Author.Tests.{leb-false, not-false}
use lib.Dec.{leb}
use lib.IntN.{pos, ◌-ℤ◌}
use lib.ListN.{get_or}
use Rattle.g9932.specs.Bits.{weight, num, odd, bits, first}
use Rattle.g9932.specs.Points.{twos_complement, table10_3, odd_point, same_point}
use Rattle.g9932.specs.Sizes.{Point, point}
use Rattle.g9932.proofs.Constellations.{same_point→eq}
use Rattle.g9932.proofs.Search.{first_no}

pub word_small : (l : ℕ) → l < 32 → (w : ℕ) → w ≡ get_or table10_3 l 0 → w < 16
unfolding first
word_small l h w e = rw e (leb-false 16 (get_or table10_3 l 0) (first_no (λ k. leb 16 (get_or table10_3 k 0)) 32 refl l h))

-- the point by the word (Xc Xd Yc Yd) of the label
abbrev by_word : ℕ → ℕ → Point
by_word l w =
    point (pos (4 * (w / 4 % 2) + 2 * (l / 2 % 2) + 1) -ℤ pos (8 * (w / 8))) (pos (4 * (w % 2) + 2 * (l % 2) + 1) -ℤ pos (8 * (w / 2 % 2)))

abbrev differs : ℕ → Bool
differs l = not (same_point (by_word l (get_or table10_3 l 0)) (odd_point 5 (bits 5 l)))

pub five_point : (l : ℕ) → l < 32 → (w : ℕ) → w ≡ get_or table10_3 l 0 → by_word l w ≡ odd_point 5 (bits 5 l)
unfolding first weight num odd bits twos_complement
five_point l h w e =
    rw e (same_point→eq (by_word l (get_or table10_3 l 0)) (odd_point 5 (bits 5 l)) (not-false _ (first_no differs 32 refl l h)))
