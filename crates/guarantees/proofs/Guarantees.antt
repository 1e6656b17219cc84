-- The promises over the definitions of document 01: demand 3, in full; of request R-14, quarter turns, beside half a turn; of demand 2, how
-- many bits go on the tones, and which go where; what else is shown of the definitions; of request R-1, the plain mapper; of request R-13,
-- nearest reading, by itself and against exact reading; and of request R-10, the clip check, by itself and against two readings. That the
-- code gives what they say is the `ensures` of each operation. Each proof cites the part that shows it. The words are those of
-- specs/Words.antt and of crate g9932. Request R-12, the pair report, has a page of its own: crates/tally/proofs/Theorems.antt.
use Rattle.std.specs.Prelude.{None, Some}
use Prim.Native.Nat.{ℕ, suc, ◌+◌, ◌-◌, ◌*◌, ◌/◌, ◌%◌, ◌^◌, ◌≤◌, ◌<◌}
use mathlib.Core.Bool.{Bool, true, false, cond, not}
use mathlib.Core.List.{List, [], ◌∷◌, map}
use mathlib.Core.Logic.{◌↔◌, ◌≢◌, ◌⊎◌}
use mathlib.Core.Path.{◌≡◌, sym, ◌∙◌}
use lib.Dec.{eqb}
use lib.IntN.{ℤ}
use lib.ListN.{length, take, drop, get_or}
use Rattle.g9932.specs.Bits.{◌⊕◌, bits, bit, num, odd, first}
use Rattle.g9932.specs.Sizes.{Tables, entry, bytes_for, pack, frame_bits, unused_bits, Point, origin, points}
use Rattle.g9932.specs.Refusals.{number_of, accepted, refused, some_one, table_verdict}
use Rattle.g9932.specs.Order.{sum, count, filter, one_bit, bits_of, entry_count, entries, pair_count}
use Rattle.g9932.specs.Trellis.{Word, zero_state, low_bits, low_bits_of, sent_bits}
use Rattle.g9932.specs.Points.{point_of, negated, quarters, low_quarters, label_of}
use Rattle.g9932.specs.Filler.{next_register, drawn, after_draws, register_after}
use Rattle.g9932.specs.Symbol.{reordered_tones_of, reordered_bits_of, classes_of, pairs_in, size_of, sent_in, written_points, first_monitored}
use Rattle.g9932.specs.Answers.{reorder_of, encode_at, Read, read_at, tone_refused, tone_done, map_label, mapped_of, read_point, labelled_of, draw_answer}
use Rattle.g9932.specs.Aligned.{encode_of, read_of}
use Rattle.g9932.specs.Nearest.{frame_total, NearestFrame, range_test, work_bytes, nearest_verdict, nearest_of, total_in, ReadsNearest}
use Rattle.g9932.specs.Clip.{filler_point, clip_of, clip_check, clip_number}
use Rattle.g9932.specs.Plain.{block_corner, in_block, plain_point, plain_label, label_number, plain_map, plain_read}
use Rattle.g9932.specs.Figures.{MarkedFigures}
use Rattle.g9932.specs.declared.Class.TheVariants.{Monitored, Silent}
use Rattle.g9932.specs.declared.Clip.TheVariants.{Straight, Turned, Neither, CannotTell}
use Rattle.g9932.specs.declared.Point.{Point as Coordinates}
use Rattle.g9932.specs.declared.Refusal.{Refusal}
use Rattle.g9932.specs.declared.Refused.{Refused}
use Rattle.std.specs.Prelude.{Result}
use Rattle.g9932.specs.declared.Mode.TheVariants.{Uncoded, Coded}
use Rattle.g9932.specs.declared.Nearest.{Nearest}
use Rattle.g9932.specs.declared.Refusal.{Refusal}
use Rattle.g9932.proofs.Aligned as Aligned
use Rattle.g9932.proofs.Figures as Figures
use Rattle.g9932.proofs.Packed as Packed
use Rattle.g9932.proofs.Plain as Plain
use Rattle.g9932.proofs.Quarters as Quarters
use Rattle.g9932.proofs.Reordering as Reordering
use Rattle.g9932.proofs.Verdicts as Verdicts
use Rattle.guarantees.specs.Words.{Bytes, AcceptedTables, AcceptedFrame, ValidRegister, RightLength, Ready, non_zero, pair_at, words_in, state_after, labels_of, lowest, lowest_at, one_bit_tones, first_of_two, shared_entry, table10_2, bit_one, zero_bit_tones, filler_bit, turned, first_one_bit, BreaksBy, quarter_verdict, SameUnloaded, SameLoaded, WrittenSymbol, TurnedSymbol, full_way}
use Rattle.guarantees.proofs.ClipAnswers as ClipAnswers
use Rattle.guarantees.proofs.ClipFullWay as ClipFullWay
use Rattle.guarantees.proofs.ClipQuarter as ClipQuarter
use Rattle.guarantees.proofs.Coded as Coded
use Rattle.guarantees.proofs.EntryBits as EntryBits
use Rattle.guarantees.proofs.HalfTurn as HalfTurn
use Rattle.guarantees.proofs.Mapping as Mapping
use Rattle.guarantees.proofs.NearestAnswers as NearestAnswers
use Rattle.guarantees.proofs.NearestFrames as NearestFrames
use Rattle.guarantees.proofs.NearestTotals as NearestTotals
use Rattle.guarantees.proofs.NearestVerdicts as NearestVerdicts
use Rattle.guarantees.proofs.Operations as Operations
use Rattle.guarantees.proofs.QuarterTurn as QuarterTurn
use Rattle.guarantees.proofs.RoundTrip as RoundTrip
use Rattle.guarantees.proofs.Totals as Totals
use Rattle.guarantees.proofs.TwoMappers as TwoMappers

-- ---- demand 3

-- In any accepted tables, with a valid register, any start, the same in every call, and lent buffers xs, ys and f₀ of exact lengths:
module _ (T : Tables) (r start : ℕ) (xs ys : List ℤ) (f₀ : List ℕ) (ready : Ready T r start xs ys f₀) where
  -- An accepted frame is encoded: DONE, L, the register after the draws, and X and Y of its points.
  pub encoded : (f : List ℕ) → AcceptedFrame T start f
      → encode_at T start f r xs ys
      ≡ record {
        report = record { verdict = accepted (size_of T); register = register_after r (classes_of T) };
        xs = map (λ p. p.px) (written_points T r start f);
        ys = map (λ p. p.py) (written_points T r start f);
      }
  encoded = Operations.encoded T r start xs ys f₀ ready

  -- Two accepted frames give the same points exactly when they are the same frame.
  pub distinct : (f g : List ℕ) → AcceptedFrame T start f → AcceptedFrame T start g
      → (((encode_at T start f r xs ys).xs ≡ (encode_at T start g r xs ys).xs) × ((encode_at T start f r xs ys).ys ≡ (encode_at T start g r xs ys).ys)) ↔ (f ≡ g)
  distinct = RoundTrip.distinct T r start xs ys f₀ ready

  -- A point list of the right length is read exactly when some accepted frame gives it,
  pub exactly : (X Y : List ℤ) → RightLength T X Y
      → ((read_at T X Y r start f₀).report.verdict.number ≡ 0)
      ↔ ((f : List ℕ) × AcceptedFrame T start f × ((encode_at T start f r xs ys).xs ≡ X) × ((encode_at T start f r xs ys).ys ≡ Y))
  exactly = RoundTrip.exactly T r start xs ys f₀ ready

  -- with that frame as the answer, and with the number, place, L and register of encoding it.
  pub answered : (f : List ℕ) → AcceptedFrame T start f
      → read_at T (encode_at T start f r xs ys).xs (encode_at T start f r xs ys).ys r start f₀ ≡ record { report = (encode_at T start f r xs ys).report; frame = f }
  answered = RoundTrip.answered T r start xs ys f₀ ready

  -- Coded, a written symbol with every point turned by half a turn:
  abbrev turned_read : List ℕ → Read
  turned_read f = read_at T (turned (encode_at T start f r xs ys).xs) (turned (encode_at T start f r xs ys).ys) r start f₀

  -- it is read as another frame exactly when no tone is monitored and N is even;
  pub half-turn : T.mode ≡ Coded → (f : List ℕ) → AcceptedFrame T start f
      → (((turned_read f).report.verdict.number ≡ 0) × AcceptedFrame T start (turned_read f).frame × ((turned_read f).frame ≢ f))
      ↔ ((first_monitored T ≡ None) × (non_zero T % 2 ≡ 0))
  half-turn = HalfTurn.half-turn T r start xs ys f₀ ready

  -- otherwise it is refused.
  pub half_turn_refused : T.mode ≡ Coded → (f : List ℕ) → AcceptedFrame T start f
      → ((first_monitored T ≡ None) × (non_zero T % 2 ≡ 0) → ⊥) → (turned_read f).report.verdict.number ≢ 0
  half_turn_refused m f ok other e = other (HalfTurn.half_turn_only T r start xs ys f₀ ready m f ok e)

  -- With a monitored tone, the refusal is MONITOR at the first one;
  pub half-turn-monitored : T.mode ≡ Coded → (f : List ℕ) → AcceptedFrame T start f → (k : ℕ) → first_monitored T ≡ Some k
      → (turned_read f).report.verdict ≡ refused 14 k
  half-turn-monitored = HalfTurn.half-turn-monitored T r start xs ys f₀ ready

  -- with none, and N odd, it is TRELLIS at pair 1 where P is 3, else at pair 2.
  pub half_turn_odd : T.mode ≡ Coded → (f : List ℕ) → AcceptedFrame T start f → first_monitored T ≡ None → non_zero T % 2 ≡ 1
      → (turned_read f).report.verdict ≡ refused 15 (cond (eqb (length (pairs_in T)) 3) 1 2)
  half_turn_odd = HalfTurn.half_turn_odd T r start xs ys f₀ ready

  -- Where N is odd it is never read, whatever is monitored, and whatever the register s, the start and the buffer that it is read with.
  pub half-turn-any-register : T.mode ≡ Coded → (f : List ℕ) → AcceptedFrame T start f → non_zero T % 2 ≡ 1 → (s start' : ℕ) (f' : List ℕ)
      → (read_at T (turned (encode_at T start f r xs ys).xs) (turned (encode_at T start f r xs ys).ys) s start' f').report.verdict.number ≢ 0
  half-turn-any-register = HalfTurn.half-turn-any-register T r start xs ys f₀ ready

  -- ---- quarter turns (request R-14)

  -- Coded, a written symbol with every (X, Y) replaced by (−Y, X), a quarter to the left, or every one by (Y, −X), a quarter to the right:
  abbrev left_read : List ℕ → Read
  left_read f = read_at T (turned (encode_at T start f r xs ys).ys) (encode_at T start f r xs ys).xs r start f₀

  abbrev right_read : List ℕ → Read
  right_read f = read_at T (encode_at T start f r xs ys).ys (turned (encode_at T start f r xs ys).xs) r start f₀

  -- it is always refused,
  pub quarter_turn_refused : T.mode ≡ Coded → (f : List ℕ) → AcceptedFrame T start f
      → ((left_read f).report.verdict.number ≢ 0) × ((right_read f).report.verdict.number ≢ 0)
  quarter_turn_refused m f ok = QuarterTurn.quarter-any-register T r start xs ys f₀ ready m f ok r start f₀

  -- with a verdict that the tables alone give (`quarter_refusals` opens it), the same either way and for every frame, and with the register
  -- and the buffer as they came.
  pub quarter_turn : T.mode ≡ Coded → (f : List ℕ) → AcceptedFrame T start f
      → (left_read f ≡ record { report = record { verdict = quarter_verdict T; register = r }; frame = f₀ })
      × (right_read f ≡ record { report = record { verdict = quarter_verdict T; register = r }; frame = f₀ })
  quarter_turn = QuarterTurn.quarter_turn T r start xs ys f₀ ready

  -- Where no tone has 1 bit, the code is broken, whatever is monitored, and by what: where N is odd, by u0 of pair 0; where N is 4, by u1 of
  -- pair 0 alone; where N is even and 6 or more, by u0 of pair 1, and pair 0 obeys it.
  pub quarter_by_what : T.mode ≡ Coded → (f : List ℕ) → AcceptedFrame T start f → first_one_bit T ≡ None
      → BreaksBy T (points (turned (encode_at T start f r xs ys).ys) (encode_at T start f r xs ys).xs)
      × BreaksBy T (points (encode_at T start f r xs ys).ys (turned (encode_at T start f r xs ys).xs))
  quarter_by_what = QuarterTurn.quarter_by_what T r start xs ys f₀ ready

  -- It is never read, whatever the register s, the start and the buffer that it is read with.
  pub quarter-any-register : T.mode ≡ Coded → (f : List ℕ) → AcceptedFrame T start f → (s start' : ℕ) (f' : List ℕ)
      → ((read_at T (turned (encode_at T start f r xs ys).ys) (encode_at T start f r xs ys).xs s start' f').report.verdict.number ≢ 0)
      × ((read_at T (encode_at T start f r xs ys).ys (turned (encode_at T start f r xs ys).xs) s start' f').report.verdict.number ≢ 0)
  quarter-any-register = QuarterTurn.quarter-any-register T r start xs ys f₀ ready

-- That verdict is OFFGRID at the first 1-bit tone in t'; if there is none, MONITOR at the first monitored one; if there is neither, TRELLIS,
-- at pair 0 where N is odd or 4, else at pair 1.
pub quarter_refusals : (T : Tables)
    → ((k : ℕ) → first_one_bit T ≡ Some k → quarter_verdict T ≡ refused 13 k)
    × (first_one_bit T ≡ None → (k : ℕ) → first_monitored T ≡ Some k → quarter_verdict T ≡ refused 14 k)
    × (first_one_bit T ≡ None → first_monitored T ≡ None → (non_zero T % 2 ≡ 1) ⊎ (non_zero T ≡ 4) → quarter_verdict T ≡ refused 15 0)
    × (first_one_bit T ≡ None → first_monitored T ≡ None → non_zero T % 2 ≡ 0 → non_zero T ≢ 4 → quarter_verdict T ≡ refused 15 1)
quarter_refusals = QuarterTurn.quarter_refusals

-- Coded, where 1-bit tones are present the first of them is at place NSC − (their number), for they stand last in t'; where none is, none is
-- found.
pub first_one_bit_lem : (T : Tables) → T.mode ≡ Coded
    → (0 < one_bit_tones T → first_one_bit T ≡ Some (length T.tones - one_bit_tones T)) × (one_bit_tones T ≡ 0 → first_one_bit T ≡ None)
first_one_bit_lem = QuarterTurn.first_one_bit_lem

-- ---- where a frame starts

-- Bit k of a frame is bit (k + start) of its bytes: in byte (k + start) div 8, at weight 2 to the ((k + start) mod 8).
pub frame_bit : (start l : ℕ) (f : List ℕ) (k : ℕ) → k < l → bit (frame_bits start l f) k ≡ odd (get_or f ((k + start) / 8) 0 / 2 ^ ((k + start) % 8))
frame_bit = Packed.bit_frame

-- From every start of 0 to 7 any L bits are those of an accepted frame, with the same points whatever the start.
pub at_every_start : (T : Tables) (start : ℕ) → start ≤ 7 → (x : List Bool) → length x ≡ size_of T
    → AcceptedFrame T start (pack start x) × (frame_bits start (size_of T) (pack start x) ≡ x)
    × ((r : ℕ) → written_points T r start (pack start x) ≡ written_points T r 0 (pack 0 x))
at_every_start T start small x l = (
  RoundTrip.packed_frame T start x l small,
  RoundTrip.packed_bits T start x l,
  λ r. RoundTrip.packed_points T start x l r ∙ sym (RoundTrip.packed_points T 0 x l r),
)

-- Whatever the inputs, what is read is an accepted frame, with zeros around its bits.
pub zeros_around : (T : Tables) (X Y : List ℤ) (r start : ℕ) (f₀ : List ℕ) → (read_at T X Y r start f₀).report.verdict.number ≡ 0
    → AcceptedFrame T start (read_at T X Y r start f₀).frame × (some_one (unused_bits start (size_of T) (read_at T X Y r start f₀).frame) ≡ false)
zeros_around T X Y r start f₀ h =
    let ok = RoundTrip.read_accepted T X Y r start f₀ h in
    (ok, Packed.frame_unused start (size_of T) _ ok.passes)

-- In accepted tables, from any start and with any register:
module _ (T : Tables) (ok : AcceptedTables T) (xs ys : List ℤ) (start r : ℕ) where
  -- A wrong length is ROOM: in encoding that of X or Y,
  pub room_encoding : (f : List ℕ) → (RightLength T xs ys → ⊥) → (encode_at T start f r xs ys).report.verdict ≡ refused 10 0
  room_encoding = Operations.room_encoding T ok xs ys start r

  -- in reading also that of the frame, which has the bytes that this start and L take, even above 7.
  pub room_reading : (f₀ : List ℕ) → (RightLength T xs ys × (length f₀ ≡ bytes_for start (size_of T)) → ⊥)
      → (read_at T xs ys r start f₀).report.verdict ≡ refused 10 0
  room_reading = Operations.room_reading T ok xs ys start r

  -- Where ROOM does not apply, a start above 7 is FRAME, whatever the frame and the register: in encoding,
  pub start_above_7_encoding : RightLength T xs ys → 7 < start → (f : List ℕ) → (encode_at T start f r xs ys).report.verdict ≡ refused 11 0
  start_above_7_encoding = Operations.start_above_7_encoding T ok xs ys start r

  -- and in reading.
  pub start_above_7_reading : RightLength T xs ys → 7 < start → (f₀ : List ℕ) → length f₀ ≡ bytes_for start (size_of T)
      → (read_at T xs ys r start f₀).report.verdict ≡ refused 11 0
  start_above_7_reading = Operations.start_above_7_reading T ok xs ys start r

-- Start 0 gives every answer of a call without a start (`Aligned`), for all inputs; so all of this page holds of those calls.
pub start_zero_encoding : (T : Tables) (f : List ℕ) (r : ℕ) (xs ys : List ℤ) → encode_at T 0 f r xs ys ≡ encode_of T f r xs ys
start_zero_encoding = Aligned.start_zero_encoding

pub start_zero_reading : (T : Tables) (X Y : List ℤ) (r : ℕ) (f₀ : List ℕ) → read_at T X Y r 0 f₀ ≡ read_of T X Y r f₀
start_zero_reading = Aligned.start_zero_reading

-- ---- refusals

-- Whatever the inputs, what is refused returns the given register, leaves every lent buffer as it came, and reports L as 0: reading,
pub refused_reading : (T : Tables) (X Y : List ℤ) (r start : ℕ) (f₀ : List ℕ) → (read_at T X Y r start f₀).report.verdict.number ≢ 0
    → ((read_at T X Y r start f₀).report.register ≡ r) × ((read_at T X Y r start f₀).frame ≡ f₀) × ((read_at T X Y r start f₀).report.verdict.size ≡ 0)
refused_reading = Operations.refused_reading

-- encoding,
pub refused_encoding : (T : Tables) (start : ℕ) (f : List ℕ) (r : ℕ) (xs ys : List ℤ) → (encode_at T start f r xs ys).report.verdict.number ≢ 0
    → ((encode_at T start f r xs ys).report.register ≡ r) × ((encode_at T start f r xs ys).xs ≡ xs) × ((encode_at T start f r xs ys).ys ≡ ys)
    × ((encode_at T start f r xs ys).report.verdict.size ≡ 0)
refused_encoding = Operations.refused_encoding

-- re-ordering,
pub refused_ordering : (T : Tables) (tones bits : List ℕ) → (reorder_of T tones bits).verdict.number ≢ 0
    → ((reorder_of T tones bits).tones ≡ tones) × ((reorder_of T tones bits).bits ≡ bits) × ((reorder_of T tones bits).verdict.size ≡ 0)
refused_ordering = Operations.refused_ordering

-- and checking.
pub refused_checking : (T : Tables) → (table_verdict T).number ≢ 0 → (table_verdict T).size ≡ 0
refused_checking T = (Verdicts.table_told T).no_size

-- Number 9 is unused: no refusal has it,
pub nine_unused : (x : Refusal) → number_of x ≢ 9
nine_unused = Verdicts.nine_unused

-- and no call answers it, whatever the inputs (of nearest reading and of the clip check see `nine_nearest` and `nine_clip`): with tables,
pub nine_with_tables : (T : Tables) (tones bits f f₀ : List ℕ) (xs ys : List ℤ) (r start : ℕ)
    → ((table_verdict T).number ≢ 9) × ((reorder_of T tones bits).verdict.number ≢ 9)
    × ((encode_at T start f r xs ys).report.verdict.number ≢ 9) × ((read_at T xs ys r start f₀).report.verdict.number ≢ 9)
nine_with_tables = Operations.nine_with_tables

-- and without.
pub nine_without_tables : (b l r : ℕ) (p : Point) → ((map_label b l).number ≢ 9) × ((read_point b p).number ≢ 9) × ((draw_answer r).number ≢ 9)
nine_without_tables = Operations.nine_without_tables

-- ---- how many bits

-- Coded, the bits on the tones number the frame's bits, one per coded pair, and four (sum of bits = L + P + 4);
-- uncoded, the frame's bits alone.
module _ (T : Tables) (ok : AcceptedTables T) where
  pub bits_coded : T.mode ≡ Coded → sum (bits_of T.bits (reordered_tones_of T)) ≡ size_of T + length (pairs_in T) + 4
  bits_coded = Totals.bits_coded T ok

  pub bits_uncoded : T.mode ≡ Uncoded → sum (bits_of T.bits (reordered_tones_of T)) ≡ size_of T
  bits_uncoded = Totals.bits_uncoded T ok

  -- and as many are sent for an accepted frame
  pub bits_sent : (start : ℕ) (f : List ℕ) → AcceptedFrame T start f → length (sent_in T start f) ≡ sum (bits_of T.bits (reordered_tones_of T))
  bits_sent = Totals.bits_sent T ok

  -- ---- re-ordering

  -- t' is a re-arrangement of t
  pub rearranged : (k : ℕ) → count (eqb k) (reordered_tones_of T) ≡ count (eqb k) T.tones
  rearranged k = Reordering.count_order T.bits T.tones T.mode (eqb k)

  -- 1-bit tones stay in t order among themselves, and so do the others; coded, the 1-bit tones have the last places
  pub singles_in_order : filter (one_bit T.bits) (reordered_tones_of T) ≡ filter (one_bit T.bits) T.tones
  singles_in_order = Reordering.singles_kept T.bits T.tones T.mode

  pub others_in_order : filter (λ k. not (one_bit T.bits k)) (reordered_tones_of T) ≡ filter (λ k. not (one_bit T.bits k)) T.tones
  others_in_order = Reordering.others_kept T.bits T.tones T.mode

  pub singles_last : T.mode ≡ Coded → count (one_bit T.bits) (take (length T.tones - one_bit_tones T) (reordered_tones_of T)) ≡ 0
  singles_last m = rw m (Reordering.singles_last T.bits T.tones)

  -- b' sums to the bits of b
  pub bits_kept : sum (reordered_bits_of T) ≡ sum T.bits
  bits_kept = Totals.bits_kept T ok

  -- t', b' and the points have NSC entries each
  pub lengths : (r start : ℕ) (f : List ℕ)
      → (length (reordered_tones_of T) ≡ length T.tones) × (length (reordered_bits_of T) ≡ length T.tones) × (length (written_points T r start f) ≡ length T.tones)
  lengths = Totals.lengths T ok

  -- N is counted in b' as document 01 works it out of the tones, and P pairs are cut
  pub counts : T.mode ≡ Coded
      → (non_zero T ≡ entry_count T.bits T.tones) × (length (pairs_in T) ≡ pair_count T.bits T.tones)
  counts = Totals.counts T ok

  -- Coded, an entry of b' is 0 or at least 2. So no pair holds an entry of 1, and only the first may hold a 0, as its x. (Uncoded there
  -- are no pairs.)
  pub no_one_lem : T.mode ≡ Coded → (k : ℕ) → k < length (reordered_bits_of T) → entry (reordered_bits_of T) k ≢ 1
  no_one_lem = Totals.no_one_lem T ok

  pub no_one_in_pairs : (k : ℕ) → k < length (pairs_in T) → ((pair_at T k).x ≢ 1) × ((pair_at T k).y ≢ 1)
  no_one_in_pairs = Totals.no_one_in_pairs T ok

  pub zero_in_first : (k : ℕ) → k < length (pairs_in T) → ((pair_at T k).x ≡ 0 → k ≡ 0) × ((pair_at T k).y ≢ 0)
  zero_in_first = Totals.zero_in_first T ok

-- ---- which bits go where

-- The lowest label bits of a word, in all 16 rows of Table 10-2.
pub table_10_2 : (u3 u2 u1 u0 : Bool)
    → (low_bits u0 u1 u2 u3).w0 ∷ (low_bits u0 u1 u2 u3).w1 ∷ (low_bits u0 u1 u2 u3).v0 ∷ (low_bits u0 u1 u2 u3).v1 ∷ []
    ≡ bits 4 (get_or table10_2 (num (u3 ∷ u2 ∷ u1 ∷ u0 ∷ [])) 0)
table_10_2 = Coded.table_10_2

-- The two lowest bits of v are sent first, those of w right after v's x bits;
pub sent_low : (x y : ℕ) (u : Word) → 2 ≤ x → length u.high ≡ x + y - 4 → 2 ≤ y
    → (take 2 (sent_bits x u) ≡ (low_bits_of u).v0 ∷ (low_bits_of u).v1 ∷ []) × (take 2 (drop x (sent_bits x u)) ≡ (low_bits_of u).w0 ∷ (low_bits_of u).w1 ∷ [])
sent_low = EntryBits.sent_low

-- where x = 0, v isn't sent, and w comes first.
pub sent_low_alone : (u : Word) → take 2 (sent_bits 0 u) ≡ (low_bits_of u).w0 ∷ (low_bits_of u).w1 ∷ []
sent_low_alone = EntryBits.sent_low_alone

-- In accepted tables, coded, with an accepted frame:
module _ (T : Tables) (ok : AcceptedTables T) (m : T.mode ≡ Coded) (start : ℕ) (f : List ℕ) (a : AcceptedFrame T start f) where
  -- the label of each of the N entries begins with v0 v1 of its pair's word, or with w0 w1 where it is the second of its pair,
  pub entries_low : map (take 2) (labels_of (entries T.bits T.tones) (sent_in T start f)) ≡ lowest (pairs_in T) (words_in T start f)
  entries_low = Coded.entries_low T ok m start f a

  -- and two consecutive 1-bit tones share an entry: the first gets the first of its two bits, the second the second.
  pub two_ones : (r j : ℕ) → j < one_bit_tones T / 2
      → (get_or (written_points T r start f) (first_of_two T j) origin ≡ point_of 1 (bit (lowest_at T start f (shared_entry T j)) 0 ∷ []))
      × (get_or (written_points T r start f) (first_of_two T j + 1) origin ≡ point_of 1 (bit (lowest_at T start f (shared_entry T j)) 1 ∷ []))
  two_ones = Coded.two_ones T ok m start f a

  -- The state is zero again after the last pair.
  pub state_ends : state_after zero_state (words_in T start f) ≡ zero_state
  state_ends = Coded.state_ends T ok m start f a

-- ---- one tone

-- The mapping, for every bit count: reading a mapped label gives the label,
pub mapped_read : (b l : ℕ) (p : Point) → map_label b l ≡ tone_done p → read_point b p ≡ tone_done l
mapped_read = Mapping.mapped_read

-- a point that is read maps back,
pub read_mapped : (b l : ℕ) (p : Point) → read_point b p ≡ tone_done l → map_label b l ≡ tone_done p
read_mapped = Mapping.read_mapped

-- and labels are below 2 to the b.
pub labels_below : (b l : ℕ) (p : Point) → read_point b p ≡ tone_done l → l < 2 ^ b
labels_below = Mapping.labels_below

-- From 2 bits on, bit 1 of X in two's complement is bit 1 of the label (v1), and bit 1 of Y is bit 0 of the label (v0).
pub low_bits_lem : (b l : ℕ) (p : Point) → 2 ≤ b → map_label b l ≡ tone_done p
    → (bit_one p.px ≡ bit (bits b l) 1) × (bit_one p.py ≡ bit (bits b l) 0)
low_bits_lem = Mapping.low_bits_lem

-- From 2 bits on a point turned by n quarters to the left has a label, and its two lowest bits are what n quarters make of v0 and v1: each
-- puts v1 for v0, and the complement of v0 for v1.
pub turned_lowest : (n b l : ℕ) (p : Point) → 2 ≤ b → map_label b l ≡ tone_done p
    → (m : ℕ) × (read_point b (quarters n p) ≡ tone_done m)
    × (bit (bits b m) 0 ≡ (low_quarters n (bit (bits b l) 0) (bit (bits b l) 1)).0) × (bit (bits b m) 1 ≡ (low_quarters n (bit (bits b l) 0) (bit (bits b l) 1)).1)
turned_lowest = Mapping.turned_lowest

-- So every quarter makes v0 xor v1 the other bit.
pub each_quarter : (n : ℕ) (v0 v1 : Bool)
    → (low_quarters (suc n) v0 v1).0 ⊕ (low_quarters (suc n) v0 v1).1 ≡ not ((low_quarters n v0 v1).0 ⊕ (low_quarters n v0 v1).1)
each_quarter = Quarters.each_quarter

-- The lists of a turned symbol hold the points turned by so many quarters: one to the left, two by half a turn, three to the right.
pub turned_points_lem : (q : List Point)
    → (points (turned (map (λ p. p.py) q)) (map (λ p. p.px) q) ≡ map (quarters 1) q)
    × (points (turned (map (λ p. p.px) q)) (turned (map (λ p. p.py) q)) ≡ map (quarters 2) q)
    × (points (map (λ p. p.py) q) (turned (map (λ p. p.px) q)) ≡ map (quarters 3) q)
turned_points_lem q = (QuarterTurn.points_left q, HalfTurn.points_turned q, QuarterTurn.points_right q)

-- Two quarters are half a turn, which gives the opposite point: both bits are complemented.
pub opposite : (b l : ℕ) (p : Point) → 2 ≤ b → map_label b l ≡ tone_done p
    → (m : ℕ) × (read_point b (negated p) ≡ tone_done m) × (bit (bits b m) 0 ≡ not (bit (bits b l) 0)) × (bit (bits b m) 1 ≡ not (bit (bits b l) 1))
opposite = Mapping.turned_lowest 2

-- The opposite point of 1 bit has the other label; turned by a quarter, to the left or, by three, to the right, a point of 1 bit has none.
pub opposite_one : (l : ℕ) (p : Point) → map_label 1 l ≡ tone_done p → read_point 1 (negated p) ≡ tone_done (1 - l)
opposite_one = Mapping.opposite_one

pub quarter_one : (l : ℕ) (p : Point) → map_label 1 l ≡ tone_done p → (read_point 1 (quarters 1 p) ≡ tone_refused 13) × (read_point 1 (quarters 3 p) ≡ tone_refused 13)
quarter_one = Mapping.quarter_one

-- ---- the plain mapper (request R-1)

-- The plain rule (g9932/specs/Plain) makes the points of b bits from those of b − 2, down to 2, 3 or 5 (and 1 on its own). It gives document
-- 01's point of every label of b bits, and of every point its label, or none; once over b, for every b from 1 on, so from 1 to 15.
pub plain_point_lem : (b l : ℕ) → 1 ≤ b → l < 2 ^ b → plain_point b l ≡ point_of b (bits b l)
plain_point_lem = Plain.plain_point_lem

pub plain_label_lem : (b : ℕ) (p : Point) → 1 ≤ b → plain_label b p ≡ label_number (label_of b p)
plain_label_lem = Plain.plain_label_lem

-- So an operation that maps or reads by the plain rule gives the point, label or refusal of document 01, for all inputs:
pub plain_map_lem : (b l : ℕ) → plain_map b l ≡ map_label b l
plain_map_lem = Plain.plain_map_lem

pub plain_read_lem : (b : ℕ) (p : Point) → plain_read b p ≡ read_point b p
plain_read_lem = Plain.plain_read_lem

-- Of document 01's points alone: where label n of b bits is at (X, Y), labels 4n to 4n + 3 of b + 2 bits are on a block of two by two, with 4n at
-- (2X − 1, 2Y − 1), 4n + 1 above it, 4n + 2 to its right and 4n + 3 diagonal; for b = 2 and from 4 to 13.
pub block_of_four : (b n k : ℕ) (p : Point) → 2 ≤ b → b ≤ 13 → b ≢ 3 → k < 4 → map_label b n ≡ tone_done p
    → map_label (suc (suc b)) (4 * n + k) ≡ tone_done (in_block k (block_corner p))
block_of_four = Mapping.block_of_four

-- Any two operations that have the contract of mapping one label, whatever they do inside, give the same answer to the same inputs, be it a
-- point or a refusal; and any two that have that of reading one point, be it a label or a refusal. `one` and `other` are what the two answer.
pub same_mapped : (b l : ℕ) (one other : Result Coordinates Refusal) → mapped_of one ≡ map_label b l → mapped_of other ≡ map_label b l → one ≡ other
same_mapped = TwoMappers.same_mapped

pub same_labelled : (b : ℕ) (p : Point) (one other : Result ℕ Refusal) → labelled_of one ≡ read_point b p → labelled_of other ≡ read_point b p → one ≡ other
same_labelled = TwoMappers.same_labelled

-- ---- filler bits

-- Filler bits d1 to d23 are 1; later dn = d(n−18) xor d(n−23).
pub filler_first : (n : ℕ) → 1 ≤ n → n ≤ 23 → filler_bit n ≡ true
filler_first = Totals.filler_first

pub filler_later : (n : ℕ) → 23 < n → filler_bit n ≡ filler_bit (n - 18) ⊕ filler_bit (n - 23)
filler_later = Totals.filler_later

-- Bit j of the register is the j-th bit yet to come, and a valid register stays valid: after a draw, and after a symbol.
pub filler_to_come : (r : ℕ) → ValidRegister r → (j : ℕ) → j < 23 → bit (drawn 23 r) j ≡ odd (r / 2 ^ j)
filler_to_come = Totals.filler_to_come

pub filler_valid : (r : ℕ) → ValidRegister r → ValidRegister (next_register r)
filler_valid = Totals.filler_valid

pub symbol_valid : (T : Tables) (r : ℕ) → ValidRegister r → ValidRegister (register_after r (classes_of T))
symbol_valid = Totals.symbol_valid

-- Every 0-bit tone draws two bits, monitored or silent: a symbol draws two for each one in t,
pub symbol_draws : (T : Tables) (r : ℕ) → register_after r (classes_of T) ≡ after_draws (2 * zero_bit_tones T T.tones) r
symbol_draws = Totals.symbol_draws

-- a monitored tone has the point of the next two after those of the 0-bit tones before it in t',
pub monitored_draws : (T : Tables) (r start : ℕ) (f : List ℕ) (k : ℕ) → k < length T.tones → get_or (classes_of T) k Silent ≡ Monitored
    → get_or (written_points T r start f) k origin ≡ point_of 2 (drawn 2 (after_draws (2 * zero_bit_tones T (take k (reordered_tones_of T))) r))
monitored_draws = Totals.monitored_draws

-- and a silent one has (0, 0).
pub silent_point : (T : Tables) (r start : ℕ) (f : List ℕ) (k : ℕ) → k < length T.tones → get_or (classes_of T) k Silent ≡ Silent
    → get_or (written_points T r start f) k origin ≡ origin
silent_point T r start f k h = Totals.silent_point T r start f k

-- ---- the marked bench figures, as one claim (g9932/specs/Figures)

pub marked_figures : MarkedFigures
marked_figures = Figures.marked_figures

-- ---- nearest reading (request R-13)

-- `NearestFrame` is all that is promised of the frame f and the total n that points are read as, so what follows holds of every answer
-- that nearest reading can give. No accepted frame has less, so neither has the one that was sent,
pub nearest_most : (T : Tables) (q : List Point) (r start : ℕ) (f : List ℕ) (n : ℕ) → NearestFrame T q r start f n
    → (g : List ℕ) → AcceptedFrame T start g → n ≤ frame_total T q r start g
nearest_most T q r start f n near = NearestFrames.most near

-- and any two answers have the same total.
pub nearest_same_total : (T : Tables) (q : List Point) (r start : ℕ) (f g : List ℕ) (n m : ℕ)
    → NearestFrame T q r start f n → NearestFrame T q r start g m → n ≡ m
nearest_same_total T q r start f g n m near = NearestFrames.same_total near g m

-- The total looks at loaded tones only: point lists of one length that agree there have the same total, for every frame.
pub nearest_loaded_only : (T : Tables) (p q : List Point) → length p ≡ length q → SameLoaded T p q → (r start : ℕ) (f : List ℕ)
    → frame_total T p r start f ≡ frame_total T q r start f
nearest_loaded_only = NearestTotals.loaded_only

-- It is the same with any register,
pub nearest_any_register : (T : Tables) (q : List Point) (r s start : ℕ) (f : List ℕ) → frame_total T q r start f ≡ frame_total T q s start f
nearest_any_register = NearestTotals.any_register

-- and so are the frames that are nearest.
pub nearest_frame_any_register : (T : Tables) (q : List Point) (r s start : ℕ) (f : List ℕ) (n : ℕ)
    → NearestFrame T q r start f n → NearestFrame T q s start f n
nearest_frame_any_register = NearestTotals.any_register_nearest

-- As in demand 3, for X and Y of the right length and a nearest frame f of bytes, with total n:
module _ (T : Tables) (r start : ℕ) (xs ys : List ℤ) (f₀ : List ℕ) (ready : Ready T r start xs ys f₀) (X Y : List ℤ) (right : RightLength T X Y)
    (f : List ℕ) (ok : AcceptedFrame T start f) (n : ℕ) (near : NearestFrame T (points X Y) r start f n) where
  -- At total 0 the answer is not free: no other accepted frame has it.
  pub nearest_one : n ≡ 0 → (g : List ℕ) → AcceptedFrame T start g → frame_total T (points X Y) r start g ≡ 0 → g ≡ f
  nearest_one = NearestFrames.nearest_one T r start xs ys f₀ ready X Y right f ok n near

  -- The points of an accepted frame have total 0, and the answer is that frame.
  pub nearest_written : (g : List ℕ) → AcceptedFrame T start g → points X Y ≡ written_points T r start g → (n ≡ 0) × (f ≡ g)
  nearest_written = NearestFrames.nearest_written T r start xs ys f₀ ready X Y right f ok n near

  -- So have points that exact reading reads, and the answer is the same frame.
  pub nearest_exact : (read_at T X Y r start f₀).report.verdict.number ≡ 0 → (n ≡ 0) × (f ≡ (read_at T X Y r start f₀).frame)
  nearest_exact = NearestFrames.nearest_exact T r start xs ys f₀ ready X Y right f ok n near

  -- The other way round, points at total 0 that have, at every monitored and every silent place, the point that is written there, are
  -- those of f, and exact reading reads them as f.
  pub nearest_zero : n ≡ 0 → SameUnloaded T (points X Y) (written_points T r start f)
      → (points X Y ≡ written_points T r start f) × (read_at T X Y r start f₀ ≡ record { report = (encode_at T start f r xs ys).report; frame = f })
  nearest_zero = NearestFrames.nearest_zero T r start xs ys f₀ ready X Y right f ok n near

  -- Together: exact reading reads exactly the points that have total 0 and agree where no data is.
  pub nearest_exactly : ((read_at T X Y r start f₀).report.verdict.number ≡ 0) ↔ ((n ≡ 0) × SameUnloaded T (points X Y) (written_points T r start f))
  nearest_exactly = NearestFrames.nearest_exactly T r start xs ys f₀ ready X Y right f ok n near

-- Coded, for the symbol written for g with every point turned by half a turn, and a nearest frame f of it, with total n. Total 0 is no
-- proof that the points are not turned: the total doesn't look at monitored points, and they alone can show it where N is even.
module _ (T : Tables) (r start : ℕ) (xs ys : List ℤ) (f₀ : List ℕ) (ready : Ready T r start xs ys f₀) (m : T.mode ≡ Coded)
    (g : List ℕ) (ok : AcceptedFrame T start g) (f : List ℕ) (n : ℕ)
    (near : NearestFrame T (points (turned (encode_at T start g r xs ys).xs) (turned (encode_at T start g r xs ys).ys)) r start f n) where
  -- The total is 0 exactly when N is even, whatever is monitored;
  pub nearest_half_turn : (n ≡ 0) ↔ (non_zero T % 2 ≡ 0)
  nearest_half_turn = NearestFrames.nearest_half_turn T r start xs ys f₀ ready m g ok f n near

  -- f is then another frame than g.
  pub nearest_half_turn_other : n ≡ 0 → f ≢ g
  nearest_half_turn_other = NearestFrames.nearest_half_turn_other T r start xs ys f₀ ready m g ok f n near

  -- Exact reading reads the turned symbol exactly when the total is 0 and no tone is monitored
  -- (with a monitored tone: `half-turn-monitored`).
  pub nearest_half_turn_exactly :
      ((read_at T (turned (encode_at T start g r xs ys).xs) (turned (encode_at T start g r xs ys).ys) r start f₀).report.verdict.number ≡ 0)
      ↔ ((first_monitored T ≡ None) × (n ≡ 0))
  nearest_half_turn_exactly = NearestFrames.nearest_half_turn_exactly T r start xs ys f₀ ready m g ok f n near

-- An operation that reads so (`ReadsNearest`), with its answer a, and with f and work' left in the lent buffers. Whatever the inputs:
module _ (T : Tables) (X Y : List ℤ) (r start : ℕ) (f₀ work : List ℕ) (a : Result Nearest Refused) (f work' : List ℕ)
    (reads : ReadsNearest T X Y r start f₀ work a f work') where
  -- where it is DONE, f is a nearest frame, with the total told; so all of the above holds of it, f being bytes (`Bytes`) by its type.
  pub nearest_answer_lem : (nearest_of a).verdict.number ≡ 0 → NearestFrame T (points X Y) r start f (total_in a)
  nearest_answer_lem = NearestAnswers.nearest_answer_lem T X Y r start f₀ work a f work' reads

  -- With a working buffer of its exact length, on points that exact reading reads it answers the same number, place, L and register and
  -- the same frame, with total 0.
  pub nearest_as_exact : length work ≡ work_bytes T → Bytes f → (read_at T X Y r start f₀).report.verdict.number ≡ 0
      → (nearest_of a ≡ (read_at T X Y r start f₀).report) × (total_in a ≡ 0) × (f ≡ (read_at T X Y r start f₀).frame)
  nearest_as_exact = NearestAnswers.nearest_as_exact T X Y r start f₀ work a f work' reads

  -- What is refused returns the given register, leaves both buffers as they came, and reports L as 0.
  pub refused_nearest : (nearest_of a).verdict.number ≢ 0
      → ((nearest_of a).register ≡ r) × (f ≡ f₀) × (work' ≡ work) × ((nearest_of a).verdict.size ≡ 0)
  refused_nearest = NearestAnswers.refused_nearest T X Y r start f₀ work a f work' reads

-- No answer has number 9.
pub nine_nearest : (a : Result Nearest Refused) → (nearest_of a).verdict.number ≢ 9
nine_nearest = NearestAnswers.nine_nearest

-- `nearest_verdict` is the number, place and L that it answers. Whatever the inputs, the number is not 13, 14 or 15.
pub nearest_never_exact : (T : Tables) (xs ys : List ℤ) (r start frame_length work_length n : ℕ) → 13 ≤ n → n ≤ 15
    → (nearest_verdict T xs ys r start frame_length work_length).number ≢ n
nearest_never_exact = NearestVerdicts.never_exact

-- In accepted tables, from any start and with any register:
module _ (T : Tables) (ok : AcceptedTables T) (xs ys : List ℤ) (start r : ℕ) (f₀ work : List ℕ) where
  -- A wrong length is ROOM: that of X or Y, of the frame, or of the working buffer.
  pub room_nearest : (RightLength T xs ys × (length f₀ ≡ bytes_for start (size_of T)) × (length work ≡ work_bytes T) → ⊥)
      → nearest_verdict T xs ys r start (length f₀) (length work) ≡ refused 10 0
  room_nearest = NearestVerdicts.room_nearest T ok xs ys start r f₀ work

  -- Where ROOM does not apply:
  module _ (right : RightLength T xs ys) (fits : length f₀ ≡ bytes_for start (size_of T)) (room : length work ≡ work_bytes T) where
    -- A start above 7 is FRAME, whatever the register and the points.
    pub start_above_7_nearest : 7 < start → nearest_verdict T xs ys r start (length f₀) (length work) ≡ refused 11 0
    start_above_7_nearest = NearestVerdicts.start_above_7_nearest T ok xs ys start r f₀ work right fits room

    -- After it comes SEED, whatever the points;
    pub seed_nearest : start ≤ 7 → (ValidRegister r → ⊥) → nearest_verdict T xs ys r start (length f₀) (length work) ≡ refused 12 0
    seed_nearest = NearestVerdicts.seed_nearest T ok xs ys start r f₀ work right fits room

    -- then RANGE, at the first place with a coordinate that is not −1,023 to 1,023, whatever the tone's class;
    pub range_nearest : start ≤ 7 → ValidRegister r → (k : ℕ) → first (range_test (points xs ys)) (length T.tones) ≡ Some k
        → nearest_verdict T xs ys r start (length f₀) (length work) ≡ refused 23 k
    range_nearest = NearestVerdicts.range_nearest T ok xs ys start r f₀ work right fits room

    -- and where there is no such place it is DONE, with L.
    pub done_nearest : start ≤ 7 → ValidRegister r → first (range_test (points xs ys)) (length T.tones) ≡ None
        → nearest_verdict T xs ys r start (length f₀) (length work) ≡ accepted (size_of T)
    done_nearest = NearestVerdicts.done_nearest T ok xs ys start r f₀ work right fits room

-- The working buffer: coded, it has 16 bytes a pair, and the pairs are N/2, rounded up;
pub work_coded : (T : Tables) → T.mode ≡ Coded → work_bytes T ≡ 16 * ((non_zero T + 1) / 2)
work_coded = Totals.work_coded

-- uncoded, it has none;
pub work_uncoded : (T : Tables) → T.mode ≡ Uncoded → work_bytes T ≡ 0
work_uncoded = Totals.work_uncoded

-- in accepted tables it has at most 32,768.
pub work_most : (T : Tables) → AcceptedTables T → work_bytes T ≤ 32_768
work_most = Totals.work_most

-- As in demand 3, with a working buffer of its exact length:
module _ (T : Tables) (r start : ℕ) (xs ys : List ℤ) (f₀ : List ℕ) (ready : Ready T r start xs ys f₀) (work : List ℕ)
    (room : length work ≡ work_bytes T) (g : List ℕ) (ok : AcceptedFrame T start g) (a : Result Nearest Refused) (f work' : List ℕ) where
  -- The symbol written for g is read back: with the number, place, L and register of encoding it, total 0, and g itself.
  pub nearest_round_trip : Bytes f → ReadsNearest T (encode_at T start g r xs ys).xs (encode_at T start g r xs ys).ys r start f₀ work a f work'
      → (nearest_of a ≡ (encode_at T start g r xs ys).report) × (total_in a ≡ 0) × (f ≡ g)
  nearest_round_trip = NearestAnswers.nearest_round_trip T r start xs ys f₀ ready work room g ok a f work'

  -- Coded, turned by half a turn it is never refused: it is DONE, at total 0 exactly when N is even.
  pub nearest_turned : T.mode ≡ Coded
      → ReadsNearest T (turned (encode_at T start g r xs ys).xs) (turned (encode_at T start g r xs ys).ys) r start f₀ work a f work'
      → (nearest_of a ≡ (encode_at T start g r xs ys).report) × ((total_in a ≡ 0) ↔ (non_zero T % 2 ≡ 0))
  nearest_turned = NearestAnswers.nearest_turned T r start xs ys f₀ ready work room g ok a f work'

-- ---- the clip check (request R-10)

-- The answer of the clip check is `clip_check`; `clip_of` is what it tells where nothing is refused (`clip_done`).
-- If some tone of accepted coded tables is monitored, then with a valid register, for readings at a start up to 7, the same in both, and
-- with the right lengths:
module _ (T : Tables) (ok : AcceptedTables T) (m : T.mode ≡ Coded) (r : ℕ) (valid : ValidRegister r) (start : ℕ) (small : start ≤ 7) (f₀ : List ℕ)
    (fits : length f₀ ≡ bytes_for start (size_of T)) (k : ℕ) (monitored : first_monitored T ≡ Some k) (X Y : List ℤ) where
  -- Of points that are a written symbol of these tables and this register, or one turned by half a turn,
  module _ (symbol : WrittenSymbol T r X Y ⊎ TurnedSymbol T r X Y) where
    -- the answer equals the full way's: read the points as they are, then with all signs changed, and see which is accepted.
    pub clip_full_way : clip_check T X Y r ≡ record { number = 0; place = 0; clip = Some (full_way T X Y r start f₀); register = r }
    clip_full_way = ClipFullWay.check_full_way T ok m r valid start small f₀ fits k monitored X Y symbol

    -- It is straight exactly when the first reading is accepted,
    pub clip_straight_exactly : (clip_of T (points X Y) r ≡ Straight) ↔ ((read_at T X Y r start f₀).report.verdict.number ≡ 0)
    clip_straight_exactly = ClipFullWay.straight_exactly T ok m r valid start small f₀ fits k monitored X Y symbol

    -- and turned exactly when the second is.
    pub clip_turned_exactly : (clip_of T (points X Y) r ≡ Turned) ↔ ((read_at T (turned X) (turned Y) r start f₀).report.verdict.number ≡ 0)
    clip_turned_exactly = ClipFullWay.turned_exactly T ok m r valid start small f₀ fits k monitored X Y symbol

  -- Of any points of the right length, the two readings are never both accepted;
  pub clip_never_both : RightLength T X Y
      → ((read_at T X Y r start f₀).report.verdict.number ≡ 0) × ((read_at T (turned X) (turned Y) r start f₀).report.verdict.number ≡ 0) → ⊥
  clip_never_both = ClipFullWay.never_both T ok m r valid start small f₀ fits k monitored X Y

  -- and where one of them is, the check tells what the full way tells.
  pub clip_agrees : RightLength T X Y → full_way T X Y r start f₀ ≢ Neither → clip_of T (points X Y) r ≡ full_way T X Y r start f₀
  clip_agrees = ClipFullWay.agrees T ok m r valid start small f₀ fits k monitored X Y

-- Where no tone is monitored, the full way tells a written symbol from a turned one exactly if N is odd.
module _ (T : Tables) (ok : AcceptedTables T) (m : T.mode ≡ Coded) (r : ℕ) (valid : ValidRegister r) (start : ℕ) (small : start ≤ 7) (f₀ : List ℕ)
    (fits : length f₀ ≡ bytes_for start (size_of T)) (none_monitored : first_monitored T ≡ None) (X Y : List ℤ) where
  pub full_way_even : non_zero T % 2 ≡ 0 → WrittenSymbol T r X Y ⊎ TurnedSymbol T r X Y → full_way T X Y r start f₀ ≡ CannotTell
  full_way_even = ClipFullWay.even_way T ok m r valid start small f₀ fits none_monitored X Y

  pub full_way_odd_straight : non_zero T % 2 ≡ 1 → WrittenSymbol T r X Y → full_way T X Y r start f₀ ≡ Straight
  full_way_odd_straight = ClipFullWay.odd_straight T ok m r valid start small f₀ fits none_monitored X Y

  pub full_way_odd_turned : non_zero T % 2 ≡ 1 → TurnedSymbol T r X Y → full_way T X Y r start f₀ ≡ Turned
  full_way_odd_turned = ClipFullWay.odd_turned T ok m r valid start small f₀ fits none_monitored X Y

-- With accepted tables, a valid register and the first monitored tone at place k in t':
module _ (T : Tables) (ok : AcceptedTables T) (r : ℕ) (valid : ValidRegister r) (k : ℕ) (monitored : first_monitored T ≡ Some k) (X Y : List ℤ) where
  -- A written symbol is straight, and one turned by half a turn is turned.
  pub clip-of-written : WrittenSymbol T r X Y → clip_check T X Y r ≡ record { number = 0; place = 0; clip = Some Straight; register = r }
  clip-of-written = ClipFullWay.check_written T ok r X Y k monitored valid

  pub clip-of-turned : TurnedSymbol T r X Y → clip_check T X Y r ≡ record { number = 0; place = 0; clip = Some Turned; register = r }
  clip-of-turned = ClipFullWay.check_turned T ok r X Y k monitored valid

  -- A written symbol turned by a quarter, to the left or to the right, is neither.
  pub clip-of-quarter : WrittenSymbol T r X Y
      → (clip_check T (turned Y) X r ≡ record { number = 0; place = 0; clip = Some Neither; register = r })
      × (clip_check T Y (turned X) r ≡ record { number = 0; place = 0; clip = Some Neither; register = r })
  clip-of-quarter = ClipQuarter.check_quarter T r k ok valid monitored X Y

-- Whatever the tables, the points and the register, `clip_of` is straight exactly when the point of the first monitored tone, at place k in
-- t', is the one its filler bits give, turned exactly when it is the opposite one, and neither exactly when it is any other (a list that is too
-- short has the origin there);
module _ (T : Tables) (q : List Point) (r k : ℕ) (monitored : first_monitored T ≡ Some k) where
  pub clip_straight : (clip_of T q r ≡ Straight) ↔ (get_or q k origin ≡ filler_point T r k)
  clip_straight = ClipAnswers.straight T q r k monitored

  pub clip_turned : (clip_of T q r ≡ Turned) ↔ (get_or q k origin ≡ negated (filler_point T r k))
  clip_turned = ClipAnswers.turned T q r k monitored

  pub clip_neither : (clip_of T q r ≡ Neither) ↔ ((get_or q k origin ≢ filler_point T r k) × (get_or q k origin ≢ negated (filler_point T r k)))
  clip_neither = ClipAnswers.neither T q r k monitored

-- it can't tell exactly when no tone is monitored;
pub clip_cannot_tell : (T : Tables) (q : List Point) (r : ℕ) → (clip_of T q r ≡ CannotTell) ↔ (first_monitored T ≡ None)
clip_cannot_tell = ClipAnswers.cannot_tell

-- and no other point matters: lists of the same lengths with the same point there have the same answer, accepted or refused.
pub clip_one_tone : (T : Tables) (r : ℕ) (X Y X' Y' : List ℤ) → length X ≡ length X' → length Y ≡ length Y'
    → ((k : ℕ) → first_monitored T ≡ Some k → get_or (points X Y) k origin ≡ get_or (points X' Y') k origin) → clip_check T X Y r ≡ clip_check T X' Y' r
clip_one_tone = ClipAnswers.one_tone

-- Whatever the inputs:
module _ (T : Tables) (xs ys : List ℤ) (r : ℕ) where
  -- The register comes back as it was given.
  pub clip_register : (clip_check T xs ys r).register ≡ r
  clip_register = ClipAnswers.register_back T xs ys r

  -- A refused check tells no clip,
  pub clip_refused : (clip_check T xs ys r).number ≢ 0 → (clip_check T xs ys r).clip ≡ None
  clip_refused = ClipAnswers.not_told T xs ys r

  -- and has 0 for it in C; a check that is done never has.
  pub clip_zero : (clip_number (clip_check T xs ys r).clip ≡ 0) ↔ ((clip_check T xs ys r).number ≢ 0)
  clip_zero = ClipAnswers.zero_refused T xs ys r

  -- Tables that are refused have the number and place of checking them.
  pub tables_clip : (table_verdict T).number ≢ 0
      → clip_check T xs ys r ≡ record { number = (table_verdict T).number; place = (table_verdict T).place; clip = None; register = r }
  tables_clip = ClipAnswers.tables_refused T xs ys r

  -- No answer has number 9.
  pub nine_clip : (clip_check T xs ys r).number ≢ 9
  nine_clip = ClipAnswers.nine T xs ys r

-- In accepted tables, with any register:
module _ (T : Tables) (ok : AcceptedTables T) (xs ys : List ℤ) (r : ℕ) where
  -- A wrong length is ROOM;
  pub room_clip : (RightLength T xs ys → ⊥) → clip_check T xs ys r ≡ record { number = 10; place = 0; clip = None; register = r }
  room_clip = ClipAnswers.room T ok xs ys r

  -- where it does not apply, a register that is not valid is SEED;
  pub seed_clip : RightLength T xs ys → (ValidRegister r → ⊥) → clip_check T xs ys r ≡ record { number = 12; place = 0; clip = None; register = r }
  seed_clip = ClipAnswers.seed T ok xs ys r

  -- and there is no other refusal.
  pub clip_done : RightLength T xs ys → ValidRegister r
      → clip_check T xs ys r ≡ record { number = 0; place = 0; clip = Some (clip_of T (points xs ys) r); register = r }
  clip_done = ClipAnswers.done T ok xs ys r
