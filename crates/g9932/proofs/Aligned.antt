-- Start 0 gives every answer that document 01 gives of a frame that starts on a byte.
use Prim.Native.Nat.{ℕ, ◌+◌}
use mathlib.Core.Bool.{Bool, not, ◌||◌}
use mathlib.Core.List.{List}
use mathlib.Core.Path.{◌≡◌, refl, ap, ap₂}
use native.Mathlib.Omega.{arith}
use lib.Dec.{eqb}
use lib.IntN.{ℤ}
use lib.ListN.{length, drop}
use Rattle.g9932.specs.Bits.{bits}
use Rattle.g9932.specs.Sizes.{Tables, unpack, bytes_for, pack_into, pack}
use Rattle.g9932.specs.Refusals.{accepted, refuse_if, room_test, some_one, frame_test, seed_test}
use Rattle.g9932.specs.Symbol.{written_points}
use Rattle.g9932.specs.Answers.{encode_inputs, encode_verdict, encode_at, read_inputs, read_verdict, read_at}
use Rattle.g9932.specs.Aligned as Aligned

bytes_zero : (l : ℕ) → bytes_for 0 l ≡ Aligned.bytes_for l
bytes_zero l = omega arith

frame_zero : (l : ℕ) (f : List ℕ) → frame_test 0 l f ≡ Aligned.frame_test l f
unfolding frame_test Aligned.frame_test
frame_zero l f =
    let at : 0 + l ≡ l = omega arith in
    ap₂ (λ (n k : ℕ). not (eqb (length f) n) || some_one (drop k (unpack f))) (bytes_zero l) at

pack_zero : (x : List Bool) → pack 0 x ≡ Aligned.pack x
unfolding bits
pack_zero x = ap (λ (n : ℕ). pack_into n x) (bytes_zero (length x))

written_zero : (T : Tables) (r : ℕ) (f : List ℕ) → written_points T r 0 f ≡ Aligned.written_points T r f
unfolding written_points Aligned.written_points
written_zero T r f = refl

encode_zero : (T : Tables) (f : List ℕ) (r n k : ℕ) → encode_verdict T 0 f r n k ≡ Aligned.encode_verdict T f r n k
unfolding encode_verdict encode_inputs Aligned.encode_verdict Aligned.encode_inputs
encode_zero T f r n k = rw frame_zero

inputs_zero : (l nsc a b c r : ℕ) → read_inputs 0 l nsc a b c r ≡ Aligned.read_inputs l nsc a b c r
unfolding read_inputs Aligned.read_inputs refuse_if
inputs_zero l nsc a b c r =
    ap (λ (n : ℕ). refuse_if 10 (room_test a nsc || room_test b nsc || room_test c n) (refuse_if 12 (seed_test r) (accepted l))) (bytes_zero l)

read_zero : (T : Tables) (xs ys : List ℤ) (r n : ℕ) → read_verdict T xs ys r 0 n ≡ Aligned.read_verdict T xs ys r n
unfolding read_verdict Aligned.read_verdict
read_zero T xs ys r n = rw inputs_zero

pub start_zero_encoding : (T : Tables) (f : List ℕ) (r : ℕ) (xs ys : List ℤ) → encode_at T 0 f r xs ys ≡ Aligned.encode_of T f r xs ys
start_zero_encoding T f r xs ys = rw (encode_zero T f r (length xs) (length ys), written_zero T r f)

pub start_zero_reading : (T : Tables) (xs ys : List ℤ) (r : ℕ) (f : List ℕ) → read_at T xs ys r 0 f ≡ Aligned.read_of T xs ys r f
start_zero_reading T xs ys r f = rw (read_zero T xs ys r (length f), pack_zero)
