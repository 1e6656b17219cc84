-- The words that the guarantees are stated with: document 01, "The words of demand 3", those of a quarter turn, those of the sent bits, those
-- of received points, and those of the clip check.
use Rattle.std.specs.Prelude.{Option}
use Rattle.std.specs.Prelude.{ℕ, zero, suc, ◌+◌, ◌*◌, ◌-◌, ◌/◌, ◌%◌, ◌<◌, Bool, true, false, not, ◌||◌, cond, List, [], ◌∷◌, ◌++◌, map, ◌≢◌, ◌≡◌, ltb, eqb, ℤ, pos, negsuc, neg_ℤ, length, take, drop, get_or}
use Rattle.g9932.specs.Bits.{◌⊕◌, bit, odd, first}
use Rattle.g9932.specs.Sizes.{Tables, entry, bytes_for, frame_bits, Point, origin}
use Rattle.g9932.specs.Refusals.{Verdict, refused, refuse_at, table_verdict, frame_test, seed_test}
use Rattle.g9932.specs.Order.{Pair, pair, count, is_one, one_bit, ones}
use Rattle.g9932.specs.Trellis.{Word, zero_state, last_two, taken, low_bits_of, next_of, word_at, breaks, width, decoded_at}
use Rattle.g9932.specs.Filler.{reset_register, drawn}
use Rattle.g9932.specs.Symbol.{reordered_tones_of, reordered_bits_of, classes_of, first_monitored, load, pairs_in, size_of, written_points, gather_bits, reading_in}
use Rattle.g9932.specs.Answers.{read_at}
use Rattle.g9932.specs.declared.Class.TheVariants.{Silent}
use Rattle.g9932.specs.declared.Clip.{Clip}
use Rattle.g9932.specs.declared.Clip.TheVariants.{Straight, Turned, Neither, CannotTell}
use Rattle.g9932.specs.declared.TrellisState.{TrellisState}

-- Tables are accepted in a mode when none of 1 to 8 applies, a frame of bytes, from its start, when 11 doesn't. A register is valid
-- when 12 doesn't apply.
abbrev pub AcceptedTables : Tables → Type 0
AcceptedTables T = (table_verdict T).number ≡ 0

pub record AcceptedFrame (T : Tables) (start : ℕ) (f : List ℕ) : Type 0 where
  pub bytes : (k : ℕ) → k < length f → get_or f k 0 < 256
  pub passes : frame_test start (size_of T) f ≡ false

abbrev pub ValidRegister : ℕ → Type 0
ValidRegister r = seed_test r ≡ false

-- A point list has the right length when X and Y have NSC entries each.
pub record RightLength (T : Tables) (xs ys : List ℤ) : Type 0 where
  pub xs_length : length xs ≡ length T.tones
  pub ys_length : length ys ≡ length T.tones

-- what demand 3 supposes: accepted tables, a valid register, lent buffers of exact lengths, and nothing of the start
pub record Ready (T : Tables) (r start : ℕ) (xs ys : List ℤ) (f : List ℕ) : Type 0 where
  pub tables : AcceptedTables T
  pub register : ValidRegister r
  pub lists : RightLength T xs ys
  pub frame : length f ≡ bytes_for start (size_of T)

-- The count of non-zero re-ordered entries is N. The 0 put in front of an odd count isn't in it.
abbrev pub non_zero : Tables → ℕ
non_zero T = count (ltb 0) (reordered_bits_of T)

-- pair k, from 0; (0, 0) past the last
abbrev pub pair_at : Tables → ℕ → Pair
pair_at T k = get_or (pairs_in T) k (pair 0 0)

-- Half a turn puts (−X, −Y) for (X, Y) at every place in t', whatever the tone's class: on each of the two lists it changes the signs.
abbrev pub turned : List ℤ → List ℤ
turned xs = map neg_ℤ xs

-- ---- a quarter turn (request R-14)

-- A quarter turn puts (−Y, X) for (X, Y) at every place in t', to the left, or (Y, −X), to the right. So of the lists X and Y the first
-- makes `turned Y` and X, the second Y and `turned X`: `turned` changes the signs of one list.

-- the first 1-bit tone, in t' order
abbrev pub first_one_bit : Tables → Option ℕ
first_one_bit T = first (λ k. one_bit T.bits (entry (reordered_tones_of T) k)) (length T.tones)

-- the first pair that breaks the code where no 1-bit tone is: pair 0 if N is odd, or if N is 4, so that it is one of the last two; else pair 1
abbrev pub quarter_pair : Tables → ℕ
quarter_pair T = cond (is_one (non_zero T % 2) || eqb (non_zero T) 4) 0 1

-- The verdict on a written symbol that is turned by a quarter, either way, in coded mode: OFFGRID at the first 1-bit tone; if there is none,
-- MONITOR at the first monitored one; if there is neither, TRELLIS at `quarter_pair`.
abbrev pub quarter_verdict : Tables → Verdict
quarter_verdict T =
    refuse_at 13 (first_one_bit T)
    (refuse_at 14 (first_monitored T)
    (refused 15 (quarter_pair T)))

-- the words that reading decodes for pairs 0 and 1, of points in t' order
abbrev pub first_word : Tables → List Point → Word
first_word T q = decoded_at (pair_at T 0) (gather_bits (classes_of T) q)

abbrev pub second_word : Tables → List Point → Word
second_word T q = decoded_at (pair_at T 1) (drop (width (pair_at T 0)) (gather_bits (classes_of T) q))

-- By what it breaks the code, where no 1-bit tone is: the code is obeyed up to `quarter_pair` and not there. Where N is odd, u0 of pair 0 isn't
-- S0, which is 0 at the start. Where N is 4, u1 of pair 0 isn't the forced one, and u0 and u2 are as they must be. Where N is even and 6 or
-- more, u0 of pair 1 isn't the S0 that pair 0 leaves. (Where N is 6, pair 1 is one of the last two; of its u1 and u2 nothing is said.)
pub record BreaksBy (T : Tables) (q : List Point) : Type 0 where
  pub stops : reading_in T q ≡ breaks (quarter_pair T)
  pub odd_n : non_zero T % 2 ≡ 1 → (first_word T q).u0 ≢ zero_state.s0
  pub four : non_zero T ≡ 4
      → ((first_word T q).u0 ≡ zero_state.s0) × ((first_word T q).u1 ≢ zero_state.s1 ⊕ zero_state.s3) × ((first_word T q).u2 ≡ zero_state.s2)
  pub more : non_zero T % 2 ≡ 0 → non_zero T ≢ 4 → (second_word T q).u0 ≢ (next_of zero_state (first_word T q)).s0

-- ---- coded: the pairs, their words u, and where their bits go

-- the words of pairs, in order, and the state after them
abbrev pub words_of : TrellisState → List Pair → List Bool → List Word
words_of s [] f = []
words_of s (p ∷ ps) f = word_at s p ps f ∷ words_of (next_of s (word_at s p ps f)) ps (drop (taken (last_two ps) p) f)

abbrev pub state_after : TrellisState → List Word → TrellisState
state_after s [] = s
state_after s (u ∷ us) = state_after (next_of s u) us

-- the words of a frame
abbrev pub words_in : Tables → ℕ → List ℕ → List Word
words_in T start f = words_of zero_state (pairs_in T) (frame_bits start (size_of T) f)

-- the two lowest bits of each entry's label: v0 v1 for the first of a pair, w0 w1 for the second; where x = 0 there is no v
abbrev pub lowest_of : ℕ → Word → List (List Bool)
lowest_of zero u = ((low_bits_of u).w0 ∷ (low_bits_of u).w1 ∷ []) ∷ []
lowest_of (suc a) u = ((low_bits_of u).v0 ∷ (low_bits_of u).v1 ∷ []) ∷ ((low_bits_of u).w0 ∷ (low_bits_of u).w1 ∷ []) ∷ []

abbrev pub lowest : List Pair → List Word → List (List Bool)
lowest [] us = []
lowest (p ∷ ps) [] = []
lowest (p ∷ ps) (u ∷ us) = lowest_of p.x u ++ lowest ps us

-- the labels of entries of these lengths, cut from the sent bits in order
abbrev pub labels_of : List ℕ → List Bool → List (List Bool)
labels_of [] d = []
labels_of (n ∷ ns) d = take n d ∷ labels_of ns (drop n d)

-- the two lowest bits of the label of entry n of the N, for a frame
abbrev pub lowest_at : Tables → ℕ → List ℕ → ℕ → List Bool
lowest_at T start f n = get_or (lowest (pairs_in T) (words_in T start f)) n []

-- how many 1-bit tones there are, which stand last in t'; the place of the first of the j-th two of them, and the entry that the two
-- share, j from 0
abbrev pub one_bit_tones : Tables → ℕ
one_bit_tones T = ones T.bits T.tones

abbrev pub first_of_two : Tables → ℕ → ℕ
first_of_two T j = length T.tones - one_bit_tones T + 2 * j

abbrev pub shared_entry : Tables → ℕ → ℕ
shared_entry T j = non_zero T - one_bit_tones T / 2 + j

-- Table 10-2, in its order: (v1 v0 w1 w0) of the rows (u3 u2 u1 u0), where u3 changes from row to row, u2 from two rows to two,
-- u1 from four to four, and u0 from eight to eight
abbrev pub table10_2 : List ℕ
table10_2 =
    0b0000 ∷ 0b1111 ∷ 0b0011 ∷ 0b1100 ∷
    0b1010 ∷ 0b0101 ∷ 0b1001 ∷ 0b0110 ∷
    0b0010 ∷ 0b1101 ∷ 0b0001 ∷ 0b1110 ∷
    0b1000 ∷ 0b0111 ∷ 0b1011 ∷ 0b0100 ∷ []

-- ---- one tone, and filler bits

-- bit 1 of a number in two's complement, where −1 − n has every bit of n complemented
abbrev pub bit_one : ℤ → Bool
bit_one (pos n) = odd (n / 2)
bit_one (negsuc n) = not (odd (n / 2))

-- how many of some tones have 0 bits
abbrev pub zero_bit_tones : Tables → List ℕ → ℕ
zero_bit_tones T t = count (λ k. eqb (entry T.bits k) 0) t

-- dn, the n-th filler bit drawn from reset
abbrev pub filler_bit : ℕ → Bool
filler_bit n = bit (drawn n reset_register) (n - 1)

-- ---- received points

-- what a buffer of bytes holds, by its type; `ReadsNearest` names the frame that is left in one and does not say it
abbrev pub Bytes : List ℕ → Type 0
Bytes f = (k : ℕ) → k < length f → get_or f k 0 < 256

-- two point lists agree at the tones that carry no data: at each monitored or silent place in t'
abbrev pub SameUnloaded : Tables → List Point → List Point → Type 0
SameUnloaded T p q = (k : ℕ) → k < length T.tones → load (get_or (classes_of T) k Silent) ≡ 0 → get_or p k origin ≡ get_or q k origin

-- and at the tones that carry data: at each loaded place in t'
abbrev pub SameLoaded : Tables → List Point → List Point → Type 0
SameLoaded T p q = (k : ℕ) → k < length T.tones → 0 < load (get_or (classes_of T) k Silent) → get_or p k origin ≡ get_or q k origin

-- ---- the clip check (request R-10)

-- points that are a written symbol of these tables and this register: those that some accepted frame gives, from its own start (with accepted
-- tables and a valid register they are what encoding writes)
pub record WrittenSymbol (T : Tables) (r : ℕ) (X Y : List ℤ) : Type 0 where
  pub start : ℕ
  pub frame : List ℕ
  pub frame_accepted : AcceptedFrame T start frame
  pub xs_are : X ≡ map (λ p. p.px) (written_points T r start frame)
  pub ys_are : Y ≡ map (λ p. p.py) (written_points T r start frame)

-- or one turned by half a turn
pub record TurnedSymbol (T : Tables) (r : ℕ) (X Y : List ℤ) : Type 0 where
  pub xs : List ℤ
  pub ys : List ℤ
  pub written : WrittenSymbol T r xs ys
  pub xs_are : X ≡ turned xs
  pub ys_are : Y ≡ turned ys

-- The full way: read the points as they are, then with all signs changed, each time from the given register, and see which is accepted.
-- Where both are, it can't tell.
abbrev pub is_read : Tables → List ℤ → List ℤ → ℕ → ℕ → List ℕ → Bool
is_read T X Y r start f₀ = eqb (read_at T X Y r start f₀).report.verdict.number 0

abbrev pub by_readings : Bool → Bool → Clip
by_readings true true = CannotTell
by_readings true false = Straight
by_readings false true = Turned
by_readings false false = Neither

abbrev pub full_way : Tables → List ℤ → List ℤ → ℕ → ℕ → List ℕ → Clip
full_way T X Y r start f₀ = by_readings (is_read T X Y r start f₀) (is_read T (turned X) (turned Y) r start f₀)
