-- A word of sixteen bits taken apart into the bits of X and Y, and put together.
use Prim.Native.Nat.{ℕ, ◌+◌, ◌*◌, ◌^◌, ◌<◌}
use mathlib.Core.Bool.{Bool}
use mathlib.Core.List.{List, ◌++◌, map}
use mathlib.Core.Path.{◌≡◌, refl, sym, ap, ◌∙◌}
use native.Mathlib.Nat.{mul-zero, mod-eq_of_lt}
use native.Mathlib.Omega.{arith}
use lib.ListN.{length}
use Rattle.g9932.specs.Bits.{num, odd, bits}
use Rattle.g9932.specs.Points.{evens, odds}
use Rattle.g9932.proofs.Words.{num_bits, bits_num, length_bits, num_lt}
use Rattle.constellation.specs.Widened.{interleaved, x_bits, y_bits}
use Rattle.constellation.proofs.Lanes.{Slot, full, worth, gaps, up_worth, gaps_worth, full_worth, Held, bits_held, squeeze, stretch, squeezed, stretched, squeeze_held, stretch_held, OfBits, of_bits_lem}

-- the bits of Y below those of X, sixteen places apart
abbrev halves : List Bool → List Bool → List Slot
halves xs ys = map full ys ++ (gaps 8 ++ (map full xs ++ gaps 7))

halves_worth : (xs ys : List Bool) → length ys ≡ 8 → worth (halves xs ys) ≡ 65536 * num xs + num ys
halves_worth xs ys h =
    let up = up_worth 8 (map full xs ++ gaps 7) in
    let high = full_worth xs (gaps 7) in
    let none : 2 ^ length xs * worth (gaps 7) ≡ 0 = rw (gaps_worth 7) (mul-zero (2 ^ length xs)) in
    rw (full_worth ys (gaps 8 ++ (map full xs ++ gaps 7)), h) (omega arith)

-- ---- apart

abbrev deinterleave_list : List Bool → List Slot
deinterleave_list l = squeezed 4 0x00ff_00ff (squeezed 2 0x0f0f_0f0f (squeezed 1 0x3333_3333 (stretched 15 0x5555_5555 (map full l))))

deinterleave_bits : OfBits 16 (λ l. deinterleave_list l ≡ halves (odds l) (evens l))
unfolding bits odd
deinterleave_bits a b c d e f g h i j k l m n o p = refl

length_halves : (w : ℕ) → (length (odds (bits 16 w)) ≡ 8) × (length (evens (bits 16 w)) ≡ 8)
unfolding bits
length_halves w = (refl, refl)

pub deinterleave_law : (w : ℕ) → w < 65536
    → squeeze 4 0x00ff_00ff (squeeze 2 0x0f0f_0f0f (squeeze 1 0x3333_3333 (stretch 15 0x5555_5555 w))) ≡ 65536 * x_bits w + y_bits w
deinterleave_law w h =
    let held =
    squeeze_held 4 0x00ff_00ff (omega arith) (squeeze_held 2 0x0f0f_0f0f (omega arith) (squeeze_held 1 0x3333_3333 (omega arith)
    (stretch_held 15 0x5555_5555 (omega arith) (bits_held 16 w h)))) in
    held.is ∙ ap worth (of_bits_lem 16 (λ l. deinterleave_list l ≡ halves (odds l) (evens l)) deinterleave_bits w)
    ∙ halves_worth (odds (bits 16 w)) (evens (bits 16 w)) (length_halves w).1

-- ---- together

abbrev interleave_list : List Bool → List Bool → List Slot
interleave_list xs ys = squeezed 15 0xffff (stretched 1 0x5555_5555 (stretched 2 0x3333_3333 (stretched 4 0x0f0f_0f0f (halves xs ys))))

interleave_bits : OfBits 8 (λ xs. OfBits 8 (λ ys. interleave_list xs ys ≡ map full (interleaved xs ys) ++ gaps 16))
unfolding bits odd
interleave_bits a b c d e f g h i j k l m n o p = refl

pub interleave_law : (x y : ℕ) → x < 256 → y < 256
    → squeeze 15 0xffff (stretch 1 0x5555_5555 (stretch 2 0x3333_3333 (stretch 4 0x0f0f_0f0f (65536 * x + y)))) ≡ num (interleaved (bits 8 x) (bits 8 y))
interleave_law x y hx hy =
    let e = halves_worth (bits 8 x) (bits 8 y) (length_bits 8 y) in
    let both : Held (65536 * x + y) (halves (bits 8 x) (bits 8 y)) = record { is = sym (rw (num_bits 8 x, num_bits 8 y, mod-eq_of_lt hx, mod-eq_of_lt hy) at e) } in
    let held =
    squeeze_held 15 0xffff (omega arith) (stretch_held 1 0x5555_5555 (omega arith) (stretch_held 2 0x3333_3333 (omega arith)
    (stretch_held 4 0x0f0f_0f0f (omega arith) both))) in
    let places =
    of_bits_lem 8 (λ ys. interleave_list (bits 8 x) ys ≡ map full (interleaved (bits 8 x) ys) ++ gaps 16)
    (of_bits_lem 8 (λ xs. OfBits 8 (λ ys. interleave_list xs ys ≡ map full (interleaved xs ys) ++ gaps 16)) interleave_bits x) y in
    let none : 2 ^ length (interleaved (bits 8 x) (bits 8 y)) * worth (gaps 16) ≡ 0 = rw (gaps_worth 16) (mul-zero _) in
    held.is ∙ ap worth places ∙ full_worth (interleaved (bits 8 x) (bits 8 y)) (gaps 16) ∙ omega arith

-- ---- one undoes the other

interleaved_parts : OfBits 16 (λ l. interleaved (odds l) (evens l) ≡ l)
interleaved_parts a b c d e f g h i j k l m n o p = refl

pub interleaved_apart : (w : ℕ) → w < 65536 → num (interleaved (bits 8 (x_bits w)) (bits 8 (y_bits w))) ≡ w
interleaved_apart w h =
    let ex = rw (length_halves w).0 at (bits_num (odds (bits 16 w))) in
    let ey = rw (length_halves w).1 at (bits_num (evens (bits 16 w))) in
    rw (ex, ey, of_bits_lem 16 (λ l. interleaved (odds l) (evens l) ≡ l) interleaved_parts w, num_bits 16 w) (mod-eq_of_lt h)

parts_interleaved : OfBits 8 (λ xs. OfBits 8 (λ ys. (length (interleaved xs ys) ≡ 16) × (odds (interleaved xs ys) ≡ xs) × (evens (interleaved xs ys) ≡ ys)))
parts_interleaved a b c d e f g h i j k l m n o p = (refl, refl, refl)

pub deinterleave_interleaved : (x y : ℕ) → x < 256 → y < 256
    → (x_bits (num (interleaved (bits 8 x) (bits 8 y))) ≡ x) × (y_bits (num (interleaved (bits 8 x) (bits 8 y))) ≡ y) × (num (interleaved (bits 8 x) (bits 8 y)) < 65536)
deinterleave_interleaved x y hx hy =
    let parts =
    of_bits_lem 8 (λ ys. (length (interleaved (bits 8 x) ys) ≡ 16) × (odds (interleaved (bits 8 x) ys) ≡ bits 8 x) × (evens (interleaved (bits 8 x) ys) ≡ ys))
    (of_bits_lem 8 (λ xs. OfBits 8 (λ ys. (length (interleaved xs ys) ≡ 16) × (odds (interleaved xs ys) ≡ xs) × (evens (interleaved xs ys) ≡ ys))) parts_interleaved x) y in
    let word = rw parts.0 at (bits_num (interleaved (bits 8 x) (bits 8 y))) in (
      rw (word, parts.1, num_bits 8 x) (mod-eq_of_lt hx),
      rw (word, parts.2, num_bits 8 y) (mod-eq_of_lt hy),
      rw parts.0 at (num_lt (interleaved (bits 8 x) (bits 8 y))),
    )
