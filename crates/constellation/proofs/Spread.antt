-- Bits at the even places: one number of eight bits, and two that make a word with zeros below it.
use Prim.Native.Nat.{ℕ, zero, suc, ◌+◌, ◌*◌, ◌%◌, ◌^◌, ◌≤◌, ◌<◌}
use mathlib.Core.Bool.{Bool}
use mathlib.Core.List.{List, [], ◌∷◌}
use mathlib.Core.Path.{◌≡◌, refl, sym, ◌∙◌}
use native.Mathlib.Nat.{add-mul, mul_assoc}
use native.Mathlib.Omega.{arith}
use borrow.Author.Tests.{leb-false}
use lib.Bits.{bit_and, bit_or}
use lib.Dec.{leb}
use lib.ListN.{length}
use Rattle.g9932.specs.Bits.{weight, num, odd, bits, first}
use Rattle.g9932.proofs.Search.{first_no}
use Rattle.g9932.proofs.Words.{length_bits}
use Rattle.constellation.specs.Widened.{interleaved}
use Rattle.constellation.specs.DemapByLayout.{spread, spread_byte, LiftedWord}
use Rattle.constellation.proofs.Lanes.{twice}
use Rattle.constellation.proofs.Mapping.{rule}

-- ---- eight bits: a step of the code moves the upper half of each group up, and all numbers are tried

abbrev moved : ℕ → ℕ → ℕ → ℕ
moved f m n = bit_and (bit_or n (n * f % 65536)) m

pub spread_byte_lem : (e : ℕ) → e < 256 → moved 2 0x5555 (moved 4 0x3333 (moved 16 0x0f0f e)) ≡ spread_byte e
unfolding first weight num odd bits
spread_byte_lem = rule (λ e. moved 2 0x5555 (moved 4 0x3333 (moved 16 0x0f0f e))) spread_byte 256 refl

pub spread_byte_le : (e : ℕ) → e < 256 → spread_byte e ≤ 21845
unfolding first weight num odd bits
spread_byte_le e h = let l = leb-false 21846 (spread_byte e) (first_no (λ e. leb 21846 (spread_byte e)) 256 refl e h) in omega arith

spread_byte_twice : (e : ℕ) → e < 128 → spread_byte (2 * e) ≡ 4 * spread_byte e
unfolding first weight num odd bits
spread_byte_twice = rule (λ e. spread_byte (2 * e)) (λ e. 4 * spread_byte e) 128 refl

spread_byte_up : (j e : ℕ) → e * 2 ^ j < 256 → spread_byte (e * 2 ^ j) ≡ spread_byte e * 2 ^ (2 * j)
spread_byte_up zero e h = let n : e * 2 ^ 0 ≡ e = omega arith in rw n (omega arith)
spread_byte_up (suc j) e h =
    let n : 2 * suc j ≡ suc (suc (2 * j)) = omega arith in
    let d = twice e j in
    let s = spread_byte_twice (e * 2 ^ j) (omega arith) in
    let i = spread_byte_up j e (omega arith) in
    rw (d, n) (omega (arith, twice (spread_byte e) (suc (2 * j)), twice (spread_byte e) (2 * j)))

-- ---- two of them in turn

interleaved_spread : (xs ys : List Bool) → length xs ≡ length ys → num (interleaved xs ys) ≡ 2 * num (spread xs) + num (spread ys)
unfolding num weight
interleaved_spread [] [] h = refl
interleaved_spread [] (y ∷ ys) h = absurd (omega arith)
interleaved_spread (x ∷ xs) [] h = absurd (omega arith)
interleaved_spread (x ∷ xs) (y ∷ ys) h = let r = interleaved_spread xs ys (omega arith) in omega arith

pub lifted_word : (c x y : ℕ) → x * c < 256 → y * c < 256 → LiftedWord c x y (2 * spread_byte (x * c) + spread_byte (y * c))
lifted_word c x y hx hy j e =
    let p = 2 ^ (2 * j) in
    let ex : spread_byte (x * c) ≡ spread_byte x * p = rw e (spread_byte_up j x (rw e at hx)) in
    let ey : spread_byte (y * c) ≡ spread_byte y * p = rw e (spread_byte_up j y (rw e at hy)) in
    let w = interleaved_spread (bits 8 x) (bits 8 y) (length_bits 8 x ∙ sym (length_bits 8 y)) in
    rw (ex, ey, w) (omega (arith, add-mul (2 * spread_byte x) (spread_byte y) p, mul_assoc 2 (spread_byte x) p))
