-- Bits that are got: bytes put together to a word, and a part of a word.
use mathlib.Core.Path.{◌≡◌, sym}
use mathlib.Core.List.{List}
use Prim.Native.Nat.{ℕ, ◌+◌, ◌*◌, ◌/◌, ◌%◌, ◌^◌, ◌≤◌, ◌<◌}
use native.Mathlib.Nat.{add_assoc}
use native.Mathlib.Omega.{arith}
use lib.Arith.{digits_mod}
use lib.ListN.{take, drop, get_or}
use lib.Seq.{drop-drop}
use Rattle.frame.specs.BitsAhead.{Ahead}
use Rattle.g9932.specs.Bits.{num}
use Rattle.g9932.specs.Sizes.{unpack}
use Rattle.g9932.proofs.Words.{num_take, num_drop}
use Rattle.g9932.proofs.Packed.{drop_unpack, num_unpack, window}

-- the bytes from byte i on as a word, the first lowest
module _ (l : List ℕ) (small : (k : ℕ) → get_or l k 0 < 256) (i w : ℕ) where
  from_byte : (k : ℕ) → num (unpack (drop (i + k) l)) ≡ get_or l (i + k) 0 + 256 * num (unpack (drop (i + (k + 1)) l))
  from_byte k = rw add_assoc at (num_unpack l (i + k) (small (i + k)))

  pub num_word40 :
      w ≡ get_or l i 0 + get_or l (i + 1) 0 * 256 + get_or l (i + 2) 0 * 65536 + get_or l (i + 3) 0 * 16777216 + get_or l (i + 4) 0 * 4294967296
      → w ≡ num (take 40 (drop (8 * i) (unpack l)))
  num_word40 is =
      let v : num (unpack (drop i l)) ≡ num (unpack (drop (i + 5) l)) * 1099511627776 + w =
      omega (arith, is, num_unpack l i (small i), from_byte 1, from_byte 2, from_byte 3, from_byte 4) in
      let h : w < 1099511627776 = omega (arith, is, small i, small (i + 1), small (i + 2), small (i + 3), small (i + 4)) in
      rw (num_take, drop_unpack, v) (sym (digits_mod _ h))

  pub num_word64 :
      w ≡ get_or l i 0 + get_or l (i + 1) 0 * 256 + get_or l (i + 2) 0 * 65536 + get_or l (i + 3) 0 * 16777216 + get_or l (i + 4) 0 * 4294967296
      + get_or l (i + 5) 0 * 1099511627776 + get_or l (i + 6) 0 * 281474976710656 + get_or l (i + 7) 0 * 72057594037927936
      → w < 18446744073709551616 → w ≡ num (take 64 (drop (8 * i) (unpack l)))
  num_word64 is h =
      let v : num (unpack (drop i l)) ≡ num (unpack (drop (i + 8) l)) * 18446744073709551616 + w =
      omega (arith, is, num_unpack l i (small i), from_byte 1, from_byte 2, from_byte 3, from_byte 4, from_byte 5, from_byte 6, from_byte 7) in
      rw (num_take, drop_unpack, v) (sym (digits_mod _ h))

-- the bits from bit `at` on, out of a word of m bits that starts at the byte of `at`
pub ahead_law : (l : List ℕ) (at m w : ℕ) → 39 ≤ m → w ≡ num (take m (drop (8 * (at / 8)) (unpack l))) → Ahead (w / 2 ^ (at % 8)) (drop at (unpack l))
ahead_law l at m w k hw n h =
    let e : 8 * (at / 8) + at % 8 ≡ at = omega arith in
    let f : at % 8 + n ≤ m = omega arith in
    rw (hw, ← num_drop, ← num_take, window, drop-drop, e)
