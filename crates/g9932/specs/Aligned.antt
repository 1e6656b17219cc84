-- Frames that start on a byte: document 01 without request R-5, as amended by those before it. These are the answers of calls that are
-- given no start. That they are those with start 0, for all inputs, is shown (`start_zero_encoding` and `start_zero_reading` on the front
-- page); the two are written out apart so that this says something.
use Rattle.std.specs.Prelude.{ℕ, ◌+◌, ◌/◌, Bool, not, ◌||◌, List, map, eqb, ℤ, length, take, drop}
use Rattle.g9932.specs.Sizes.{Tables, unpack, pack_into, Point, points}
use Rattle.g9932.specs.Refusals.{Verdict, accepted, refuse_if, and_then, room_test, some_one, seed_test, table_verdict}
use Rattle.g9932.specs.Trellis.{sent_of}
use Rattle.g9932.specs.Filler.{register_after}
use Rattle.g9932.specs.Symbol.{classes_of, pairs_in, size_of, write_points, reading_in}
use Rattle.g9932.specs.Answers.{on_done, report_by, Encoded, frame_in, points_verdict, Read}

-- ---- the frame

-- A frame has exactly L/8 bytes rounded up, each of 8 bits; unused high bits are 0.
abbrev pub bytes_for : ℕ → ℕ
bytes_for l = (l + 7) / 8

abbrev pub pack : List Bool → List ℕ
pack l = pack_into (bytes_for (length l)) l

-- the L bits of a frame, and the bits above them
abbrev pub frame_bits : ℕ → List ℕ → List Bool
frame_bits l f = take l (unpack f)

abbrev pub unused_bits : ℕ → List ℕ → List Bool
unused_bits l f = drop l (unpack f)

-- 11 FRAME: frame length wrong, or an unused bit is 1
unfoldable pub frame_test : ℕ → List ℕ → Bool
frame_test l f = not (eqb (length f) (bytes_for l)) || some_one (unused_bits l f)

-- ---- encoding uses 1 to 8 and 10 to 12

-- the bits sent for a frame, and the points that it gives
abbrev pub sent_in : Tables → List ℕ → List Bool
sent_in T f = sent_of T.mode (pairs_in T) (frame_bits (size_of T) f)

unfoldable pub written_points : Tables → ℕ → List ℕ → List Point
written_points T r f = write_points r (classes_of T) (sent_in T f)

unfoldable pub encode_inputs : ℕ → ℕ → ℕ → ℕ → List ℕ → ℕ → Verdict
encode_inputs l nsc x_length y_length f r =
    refuse_if 10 (room_test x_length nsc || room_test y_length nsc)
    (refuse_if 11 (frame_test l f)
    (refuse_if 12 (seed_test r)
    (accepted l)))

unfoldable pub encode_verdict : Tables → List ℕ → ℕ → ℕ → ℕ → Verdict
encode_verdict T f r x_length y_length = and_then (table_verdict T) (encode_inputs (size_of T) (length T.tones) x_length y_length f r)

abbrev pub encode_of : Tables → List ℕ → ℕ → List ℤ → List ℤ → Encoded
encode_of T f r xs ys =
    record {
      report = report_by (encode_verdict T f r (length xs) (length ys)) r (register_after r (classes_of T));
      xs = on_done (encode_verdict T f r (length xs) (length ys)) (map (λ p. p.px) (written_points T r f)) xs;
      ys = on_done (encode_verdict T f r (length xs) (length ys)) (map (λ p. p.py) (written_points T r f)) ys;
    }

-- ---- reading uses 1 to 8, 10 and 12 to 15

unfoldable pub read_inputs : ℕ → ℕ → ℕ → ℕ → ℕ → ℕ → Verdict
read_inputs l nsc x_length y_length frame_length r =
    refuse_if 10 (room_test x_length nsc || room_test y_length nsc || room_test frame_length (bytes_for l))
    (refuse_if 12 (seed_test r)
    (accepted l))

unfoldable pub read_verdict : Tables → List ℤ → List ℤ → ℕ → ℕ → Verdict
read_verdict T xs ys r frame_length =
    and_then (table_verdict T)
    (and_then (read_inputs (size_of T) (length T.tones) (length xs) (length ys) frame_length r)
    (points_verdict T (points xs ys) r))

abbrev pub read_of : Tables → List ℤ → List ℤ → ℕ → List ℕ → Read
read_of T xs ys r f =
    record {
      report = report_by (read_verdict T xs ys r (length f)) r (register_after r (classes_of T));
      frame = on_done (read_verdict T xs ys r (length f)) (pack (frame_in (reading_in T (points xs ys)))) f;
    }
