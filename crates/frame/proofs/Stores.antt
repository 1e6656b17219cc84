-- Bits that are put: eight bytes of a word written, and the bits that a writer has put.
use mathlib.Core.Path.{◌≡◌, refl, sym, ap, ap₂, ◌∙◌}
use mathlib.Core.Bool.{Bool}
use mathlib.Core.List.{List, ◌++◌, append_assoc, append-nil}
use Prim.Native.Nat.{ℕ, zero, suc, ◌+◌, ◌-◌, ◌*◌, ◌/◌, ◌%◌, ◌^◌, ◌≤◌, ◌<◌}
use native.Mathlib.Nat.{pow-suc, div-div-eq-div-mul, div-one, zero-mod, div-eq_of_lt}
use native.Mathlib.Numerals.{add-one}
use native.Mathlib.Omega.{arith}
use lib.Arith.{digits_lt}
use lib.Pow.{pow-add, pow_pos, shl_exact, shr_lt, high, low}
use lib.ListN.{length, take, set, length-append}
use lib.Seq.{take-append-add, take-take, take-suc-set, length-take-le}
use Rattle.std.specs.Int.{bytes_low_first, byte_at}
use Rattle.g9932.specs.Bits.{bits, num, zeros}
use Rattle.g9932.specs.Sizes.{unpack, bytes_for, pack}
use Rattle.g9932.proofs.Words.{length_bits, num_append, num_inj, num_take, bits_add, take_bits, bits_mod}
use Rattle.g9932.proofs.Packed.{length_unpack, unpack_append, take_unpack, number_zeros, length_pack, packed_number}
use Rattle.frame.specs.declared.BitWriter.{BitWriter}
use Rattle.frame.specs.Written.{empty_writer, written, Waits, bits_put, Put, Framed}

-- the k bytes of w from byte i on, the lowest first
pub bytes_bits : (i k w : ℕ) → unpack (bytes_low_first i k w) ≡ bits (8 * k) (w / 256 ^ i)
unfolding unpack bits
bytes_bits i zero w = refl
bytes_bits i (suc k) w =
    let e : 8 + 8 * k ≡ 8 * suc k = omega arith in
    let d : w / 256 ^ suc i ≡ w / 256 ^ i / 2 ^ 8 = ap (λ (n : ℕ). w / n) (pow-suc 256 i) ∙ sym (div-div-eq-div-mul w (256 ^ i) 256) in
    ap₂ (λ (a b : List Bool). a ++ b) (byte i) (rw d at (bytes_bits (suc i) k w))
    ∙ sym (bits_add 8 (8 * k) (w / 256 ^ i)) ∙ ap (λ (n : ℕ). bits n (w / 256 ^ i)) e
  where
    byte : (i : ℕ) → bits 8 (byte_at i w) ≡ bits 8 (w / 256 ^ i)
    byte zero = rw div-one (bits_mod 8 w)
    byte (suc i) = bits_mod 8 (w / 256 ^ suc i)

-- v above acc, as bits and as a number
joined : (acc fill n v a : ℕ) → acc < 2 ^ fill → v < 2 ^ n → a ≡ v * 2 ^ fill + acc → (bits (fill + n) a ≡ bits fill acc ++ bits n v) × (a < 2 ^ (n + fill))
joined acc fill n v a hs hv ha =
    let q : a / 2 ^ fill ≡ v = rw ha (high v fill hs) in
    let r : a % 2 ^ fill ≡ acc = rw ha (low v fill hs) in
    let m = rw r at (bits_mod fill a) in
    (rw (bits_add, q, ← m), rw (pow-add, ha) (digits_lt hv hs))

-- whole bytes of a word that is stored
stored_part : (l l' : List ℕ) (next k a : ℕ) → k ≤ 8 → next ≤ length l → unpack (take (next + 8) l') ≡ unpack (take next l) ++ bits 64 a
    → unpack (take (next + k) l') ≡ unpack (take next l) ++ bits (8 * k) a
stored_part l l' next k a hk hl e =
    let p = unpack (take next l) in
    let n : length p ≡ 8 * next = length_unpack (take next l) ∙ ap (λ (m : ℕ). 8 * m) (length-take-le next l hl) in
    let t : take (next + k) l' ≡ take (next + k) (take (next + 8) l') = sym (take-take (next + k) (next + 8) l' (omega arith)) in
    let j : 8 * (next + k) ≡ length p + 8 * k = omega arith in
    let w : 8 * k + (64 - 8 * k) ≡ 64 = omega arith in
    let b : take (8 * k) (bits 64 a) ≡ bits (8 * k) a = rw w at (take_bits (8 * k) (64 - 8 * k) a) in
    rw (t, ← take_unpack, e, j, take-append-add, b)

-- a value put by a writer w: what the code works out is the next writer
module _ (w : BitWriter) (n v : ℕ) (hn : n ≤ 32) (hv : v < 2 ^ n) (waits : Waits w) where
  sum : w.acc + v * 2 ^ w.fill % 18446744073709551616 ≡ v * 2 ^ w.fill + w.acc
  sum =
      let x : v * 2 ^ w.fill % 18446744073709551616 ≡ v * 2 ^ w.fill = shl_exact n w.fill 64 hv (omega (arith, waits.few)) in
      omega arith

  pub put_law : (l l' : List ℕ) → w.next + 8 ≤ length l
      → unpack (take (w.next + 8) l') ≡ unpack (take w.next l) ++ bits 64 (w.acc + v * 2 ^ w.fill % 18446744073709551616)
      → Put w l (bits n v)
      (record {
        acc = (w.acc + v * 2 ^ w.fill % 18446744073709551616) / 2 ^ (8 * ((w.fill + n) / 8));
        fill = (w.fill + n) % 8;
        next = w.next + (w.fill + n) / 8;
      }) l'
  unfolding written
  put_law l l' hl e =
      let a : ℕ = w.acc + v * 2 ^ w.fill % 18446744073709551616 in
      let few = waits.few in
      let j = joined w.acc w.fill n v a waits.small hv sum in
      let k : ℕ = (w.fill + n) / 8 in
      let r : ℕ = (w.fill + n) % 8 in
      let f : 8 * k + r ≡ w.fill + n = omega arith in
      let g : r + 8 * k ≡ n + w.fill = omega arith in
      let p = stored_part l l' w.next k a (omega arith) (omega arith) e in
      let q : bits (8 * k) a ++ bits r (a / 2 ^ (8 * k)) ≡ bits w.fill w.acc ++ bits n v =
      sym (bits_add (8 * k) r a) ∙ ap (λ (m : ℕ). bits m a) f ∙ j.0 in
      let u : a < 2 ^ (r + 8 * k) = rw g j.1 in
      record {
        holds = rw (p, append_assoc, q, append_assoc);
        waits = record { few = omega arith; small = shr_lt r (8 * k) u };
        counted = rw length_bits (omega arith);
      }

-- the last byte is the bits that wait, and zeros
pub finish_law : (w : BitWriter) (l : List ℕ) → w.next < length l → Waits w
    → unpack (take (w.next + 1) (set l w.next w.acc)) ≡ written w l ++ bits (8 - w.fill) 0
unfolding written unpack
finish_law w l h waits =
    let f : w.fill + (8 - w.fill) ≡ 8 = omega (arith, waits.few) in
    let z : w.acc / 2 ^ w.fill ≡ 0 = div-eq_of_lt waits.small in
    let g = rw (f, z) at (bits_add w.fill (8 - w.fill) w.acc) in
    rw (add-one, take-suc-set l w.next w.acc h, unpack_append, append-nil (bits 8 w.acc), g, append_assoc) refl

-- ---- what callers use

pub length_written : (w : BitWriter) (l : List ℕ) → w.next ≤ length l → length (written w l) ≡ bits_put w
unfolding written
length_written w l h =
    let a = length_unpack (take w.next l) in
    let b = length-take-le w.next l h in
    let c = length_bits w.fill w.acc in
    length-append (unpack (take w.next l)) (bits w.fill w.acc) ∙ omega arith

-- after `finish` the buffer begins with the frame of what was put behind the zeros before its start
pub finished : (w : BitWriter) (l l' : List ℕ) → w.next ≤ length l → w.next < length l' → Waits w
    → unpack (take (w.next + 1) l') ≡ written w l ++ bits (8 - w.fill) 0 → (start : ℕ) (x : List Bool) → written w l ≡ zeros start ++ x → Framed start x l'
finished w l l' h h' waits e start x is =
    let few = waits.few in
    let y : List Bool = written w l in
    let n : ℕ = bytes_for start (length x) in
    let put = length_written w l h in
    let long : length y ≡ start + length x = ap length is ∙ length-append (zeros start) x ∙ ap (λ (k : ℕ). k + length x) (length_bits start 0) in
    let s : 8 * n ≡ length y + (8 * n - length y) = omega arith in
    let t : unpack (take n l') ≡ y ++ take (8 * n - length y) (zeros (8 - w.fill)) =
    sym (take_unpack n l') ∙ sym (take-take (8 * n) (8 * (w.next + 1)) (unpack l') (omega arith))
    ∙ ap (take (8 * n)) (take_unpack (w.next + 1) l' ∙ e)
    ∙ ap (λ (k : ℕ). take k (y ++ zeros (8 - w.fill))) s ∙ take-append-add y (zeros (8 - w.fill)) (8 * n - length y) in
    let z : num (take (8 * n - length y) (zeros (8 - w.fill))) ≡ 0 =
    num_take (8 * n - length y) (zeros (8 - w.fill)) ∙ rw (number_zeros (8 - w.fill)) (zero-mod (2 ^ (8 * n - length y))) in
    let number : num (unpack (take n l')) ≡ num (unpack (pack start x)) =
    ap num t ∙ num_append y (take (8 * n - length y) (zeros (8 - w.fill))) ∙ ap (λ (k : ℕ). num y + 2 ^ length y * k) z
    ∙ omega arith ∙ ap num is ∙ sym (packed_number start x) in
    let size : length (unpack (take n l')) ≡ length (unpack (pack start x)) =
    omega (arith, length_unpack (take n l'), length-take-le n l' (omega arith), length_unpack (pack start x), length_pack n (zeros start ++ x)) in
    num_inj (unpack (take n l')) (unpack (pack start x)) size number

-- nothing put yet
pub written_empty : (start : ℕ) (l : List ℕ) → written (empty_writer start) l ≡ zeros start
unfolding written unpack
written_empty start l = refl

pub empty_waits : (start : ℕ) → start ≤ 7 → Waits (empty_writer start)
empty_waits start small = record { few = omega arith; small = pow_pos start }
