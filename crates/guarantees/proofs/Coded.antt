-- Coded, which bits go where: each entry's label begins with the two lowest bits of its word, two 1-bit tones share those of one entry,
-- and the state ends at zero.
use Prim.Native.Nat.{ℕ, zero, suc, ◌+◌, ◌*◌, ◌-◌, ◌/◌, ◌≤◌, ◌<◌}
use mathlib.Core.Bool.{Bool, true, false, not}
use mathlib.Core.List.{List, [], ◌∷◌, ◌++◌, map, map-append}
use mathlib.Core.Path.{◌≡◌, refl, sym, ap, ap₂, ◌∙◌}
use native.Mathlib.Omega.{arith}
use lib.Dec.{ltb, leb}
use lib.ListN.{length, take, drop, get_or, replicate, length-append, length-replicate, length-drop, length-map}
use lib.Seq.{get_or-append-add}
use Rattle.g9932.specs.Bits.{◌⊕◌, bit, bits, num, odd, weight}
use Rattle.g9932.specs.Sizes.{Tables, entry, frame_bits, Point, origin}
use Rattle.g9932.specs.Order.{Pair, sum, count, filter, is_one, bits_of, singles, others, reordered_tones, reordered_bits, entries}
use Rattle.g9932.specs.Trellis.{zero_state, taken, taken_total, low_bits, word_of, next_of, word_at, encode_pairs, sent_of}
use Rattle.g9932.specs.Points.{point_of}
use Rattle.g9932.specs.Filler.{register_after}
use Rattle.g9932.specs.Symbol.{class_at, classes_by, reordered_tones_of, classes_of, pairs_in, size_of, sent_in, write_points, written_points}
use Rattle.g9932.specs.declared.Class.{Class}
use Rattle.g9932.specs.declared.Class.TheVariants.{Data}
use Rattle.g9932.specs.declared.Mode.{Mode}
use Rattle.g9932.specs.declared.Mode.TheVariants.{Coded}
use Rattle.g9932.specs.declared.TrellisState.{TrellisState}
use Rattle.g9932.proofs.Accepted.{Accepted, AcceptedCoded, accepted_tables}
use Rattle.g9932.proofs.Counts.{map_filter, filter_ones, sum_parts, sum_big, sum_replicate}
use Rattle.g9932.proofs.Formed.{Formed, whole, padded, formed_ok}
use Rattle.g9932.proofs.Identities.{bits_agree, words_agree}
use Rattle.g9932.proofs.OnePair.{Fit, both}
use Rattle.g9932.proofs.Packed.{length_frame}
use Rattle.g9932.proofs.Pairs.{Ok}
use Rattle.g9932.proofs.Reordering.{entries_law, all_two_entries, nonzero_entries, length_order}
use Rattle.g9932.proofs.Sent.{load_classes, single_classes, length_taken, length_sent_of}
use Rattle.g9932.proofs.Symbols.{loads, length_write, write_append}
use Rattle.guarantees.specs.Words.{AcceptedTables, AcceptedFrame, non_zero, words_of, state_after, words_in, labels_of, lowest, lowest_at, one_bit_tones, first_of_two, shared_entry, table10_2}
use Rattle.guarantees.proofs.EntryBits.{pairs_low, labels_append, length_labels, twos_bit}

-- ---- 1-bit tones

ones_point : (n r i : ℕ) (d : List Bool) → i < n → n ≤ length d → get_or (write_points r (replicate n (Data 1)) d) i origin ≡ point_of 1 (bit d i ∷ [])
unfolding write_points
ones_point zero r i d h l = absurd (omega arith)
ones_point (suc n) r i [] h l = absurd (omega arith)
ones_point (suc n) r zero (a ∷ d) h l = refl
ones_point (suc n) r (suc i) (a ∷ d) h l = ones_point n r i d (omega arith) (omega arith)

-- ---- the state

two_same : (a : Bool) → a ⊕ a ≡ false
two_same = bits_agree 1 (λ a. a ⊕ a) (λ a. false) refl

-- a forced pair makes S0 and S1 zero and moves the old ones to S2 and S3; so two make all four
forced_next : {x y : ℕ} (s : TrellisState) (f : List Bool) → Fit true x y
    → next_of s (word_of true s x f) ≡ record { s3 = s.s1; s2 = s.s0; s1 = false; s0 = false }
unfolding word_of
forced_next s f both = rw (two_same s.s2, two_same (s.s1 ⊕ s.s3))

ends_zero : (p q : Pair) (ps : List Pair) (s : TrellisState) (f : List Bool) → Ok (p ∷ q ∷ ps) → state_after s (words_of s (p ∷ q ∷ ps) f) ≡ zero_state
ends_zero p q (r ∷ ps) s f h = ends_zero q r ps (next_of s (word_at s p (q ∷ r ∷ ps) f)) (drop (taken false p) f) h.1
ends_zero p q [] s f h =
    let t : TrellisState = next_of s (word_at s p (q ∷ []) f) in
    let e : t ≡ record { s3 = s.s1; s2 = s.s0; s1 = false; s0 = false } = forced_next s (take (taken true p) f) h.0 in
    forced_next t (take (taken true q) (drop (taken true p) f)) h.1.0
    ∙ ap (λ (z : TrellisState). record { s3 = z.s1; s2 = z.s0; s1 = false; s0 = false }) e

formed_zero : {o : Bool} (ps : List Pair) (s : TrellisState) (f : List Bool) → Formed o ps → state_after s (words_of s ps f) ≡ zero_state
formed_zero ps s f (whole {p = p} {q = q} {ps = qs} h) = ends_zero p q qs s f (formed_ok ps (whole h))
formed_zero ps s f (padded {p = p} {q = q} {r = r} {ps = qs} z y h) = ends_zero p q (r ∷ qs) s f (formed_ok ps (padded z y h))

-- ---- Table 10-2

pub table_10_2 : (u3 u2 u1 u0 : Bool)
    → (low_bits u0 u1 u2 u3).w0 ∷ (low_bits u0 u1 u2 u3).w1 ∷ (low_bits u0 u1 u2 u3).v0 ∷ (low_bits u0 u1 u2 u3).v1 ∷ []
    ≡ bits 4 (get_or table10_2 (num (u3 ∷ u2 ∷ u1 ∷ u0 ∷ [])) 0)
unfolding weight num odd bits
table_10_2 =
    words_agree 4
    (λ u3 u2 u1 u0. (low_bits u0 u1 u2 u3).w0 ∷ (low_bits u0 u1 u2 u3).w1 ∷ (low_bits u0 u1 u2 u3).v0 ∷ (low_bits u0 u1 u2 u3).v1 ∷ [])
    (λ u3 u2 u1 u0. bits 4 (get_or table10_2 (num (u3 ∷ u2 ∷ u1 ∷ u0 ∷ [])) 0)) refl

-- ---- accepted tables and an accepted frame

module _ (T : Tables) (ok : AcceptedTables T) (m : T.mode ≡ Coded) (start : ℕ) (f : List ℕ) (a : AcceptedFrame T start f) where
  facts : Accepted T
  facts = accepted_tables T ok

  c : AcceptedCoded T
  c = facts.coded m

  -- the counts of at least 2, and how many entries of 2 the 1-bit tones make
  abbrev big : List ℕ
  big = filter (leb 2) (bits_of T.bits T.tones)

  abbrev twos : ℕ
  twos = one_bit_tones T / 2

  -- the bits of a frame
  abbrev g : List Bool
  g = frame_bits start (size_of T) f

  taken_bits_lem : length g ≡ taken_total (pairs_in T)
  taken_bits_lem = length_taken T facts m start f a.passes

  length_sent_bits : length (sent_in T start f) ≡ sum (bits_of T.bits T.tones)
  length_sent_bits = length_sent_of T facts g (length_frame start (size_of T) f a.passes)

  pub state_ends : state_after zero_state (words_in T start f) ≡ zero_state
  state_ends = formed_zero (pairs_in T) zero_state g c.formed

  -- each entry's label begins with the two lowest bits of its word
  pub entries_low : map (take 2) (labels_of (entries T.bits T.tones) (sent_in T start f)) ≡ lowest (pairs_in T) (words_in T start f)
  unfolding sent_of
  entries_low =
      let es : List ℕ = entries T.bits T.tones in
      let sent : sent_in T start f ≡ encode_pairs zero_state (pairs_in T) g = ap (λ (n : Mode). sent_of n (pairs_in T) g) m in
      let low : map (take 2) (labels_of es (encode_pairs zero_state (pairs_in T) g)) ≡ lowest (pairs_in T) (words_in T start f) =
      rw c.pairs (pairs_low es zero_state g (all_two_entries T.bits T.tones) c.enough_entries (taken_bits_lem ∙ ap taken_total c.pairs)) in
      ap (λ (d : List Bool). map (take 2) (labels_of es d)) sent ∙ low

  -- the entries before those of the 1-bit tones, and the places
  big_length : length big + twos ≡ non_zero T
  big_length =
      omega (arith, length-append big (replicate twos 2), length-replicate {A = ℕ} twos 2, ap length (entries_law T.bits T.tones))
      ∙ sym (ap (λ (n : Mode). count (ltb 0) (reordered_bits n T.bits T.tones)) m ∙ nonzero_entries T.bits T.tones)

  low_bit : (j i : ℕ) → j < twos → i < 2 → bit (lowest_at T start f (shared_entry T j)) i ≡ bit (drop (sum big) (sent_in T start f)) (2 * j + i)
  low_bit j i h l =
      let d : List Bool = sent_in T start f in
      let before : List (List Bool) = map (take 2) (labels_of big d) in
      let after : List (List Bool) = map (take 2) (labels_of (replicate twos 2) (drop (sum big) d)) in
      let cut : lowest (pairs_in T) (words_in T start f) ≡ before ++ after =
      sym entries_low ∙ ap (λ (ns : List ℕ). map (take 2) (labels_of ns d)) (entries_law T.bits T.tones)
      ∙ ap (map (take 2)) (labels_append big (replicate twos 2) d) ∙ map-append (take 2) (labels_of big d) (labels_of (replicate twos 2) (drop (sum big) d)) in
      let at : shared_entry T j ≡ length before + j =
      omega (arith, big_length, length-map (labels_of big d) (take 2), length_labels big d) in
      ap₂ (λ (k : List (List Bool)) (n : ℕ). bit (get_or k n []) i) cut at ∙ ap (λ (w : List Bool). bit w i) (get_or-append-add before after j [])
      ∙ twos_bit twos j i (drop (sum big) d) h l

  -- the classes in t' order: of the other tones, then of the 1-bit ones
  abbrev before : List Class
  before = classes_by T.bits T.gains (others T.bits T.tones)

  classes_coded : classes_of T ≡ before ++ replicate (one_bit_tones T) (Data 1)
  unfolding reordered_tones
  classes_coded =
      ap (λ (n : Mode). classes_by T.bits T.gains (reordered_tones n T.bits T.tones)) m
      ∙ map-append (class_at T.bits T.gains) (others T.bits T.tones) (singles T.bits T.tones)
      ∙ ap (λ (l : List Class). before ++ l) (single_classes T.bits T.gains T.tones)

  loads_before : loads before ≡ sum big
  loads_before =
      let ns : List ℕ = bits_of T.bits T.tones in
      ap sum (load_classes T.bits T.gains (others T.bits T.tones) ∙ map_filter (entry T.bits) (λ n. not (is_one n)) T.tones)
      ∙ omega (arith, sum_parts is_one ns, ap sum (filter_ones ns), sum_replicate (count is_one ns) 1, sum_big ns)

  length_before : length before ≡ length T.tones - one_bit_tones T
  length_before =
      omega (
        arith,
        length_order T.bits T.tones T.mode,
        length-map (reordered_tones_of T) (class_at T.bits T.gains),
        ap length classes_coded,
        length-append before (replicate (one_bit_tones T) (Data 1)),
        length-replicate {A = Class} (one_bit_tones T) (Data 1),
      )

  point_at_lem : (r i : ℕ) → i < one_bit_tones T
      → get_or (written_points T r start f) (length T.tones - one_bit_tones T + i) origin ≡ point_of 1 (bit (drop (sum big) (sent_in T start f)) i ∷ [])
  unfolding written_points
  point_at_lem r i h =
      let d : List Bool = sent_in T start f in
      let n : ℕ = one_bit_tones T in
      let front : List Point = write_points r before d in
      let back : List Point = write_points (register_after r before) (replicate n (Data 1)) (drop (loads before) d) in
      let cut : write_points r (classes_of T) d ≡ front ++ back =
      ap (λ (cs : List Class). write_points r cs d) classes_coded ∙ write_append r before (replicate n (Data 1)) d in
      let at : length T.tones - n + i ≡ length front + i = omega (arith, length_before, length_write r before d) in
      let left : n ≤ length (drop (loads before) d) =
      simp length-drop (omega (arith, loads_before, length_sent_bits, sum_big (bits_of T.bits T.tones))) in
      ap₂ (λ (q : List Point) (k : ℕ). get_or q k origin) cut at ∙ get_or-append-add front back i origin
      ∙ ones_point n (register_after r before) i (drop (loads before) d) h left
      ∙ ap (λ (k : ℕ). point_of 1 (bit (drop k d) i ∷ [])) loads_before

  pub two_ones : (r j : ℕ) → j < one_bit_tones T / 2
      → (get_or (written_points T r start f) (first_of_two T j) origin ≡ point_of 1 (bit (lowest_at T start f (shared_entry T j)) 0 ∷ []))
      × (get_or (written_points T r start f) (first_of_two T j + 1) origin ≡ point_of 1 (bit (lowest_at T start f (shared_entry T j)) 1 ∷ []))
  two_ones r j h =
      let first : first_of_two T j ≡ length T.tones - one_bit_tones T + (2 * j + 0) = omega arith in
      let second : first_of_two T j + 1 ≡ length T.tones - one_bit_tones T + (2 * j + 1) = omega arith in
      let point : (i : ℕ) → i < 2 → get_or (written_points T r start f) (length T.tones - one_bit_tones T + (2 * j + i)) origin ≡ point_of 1 (bit (lowest_at T start f (shared_entry T j)) i ∷ []) =
      λ i l. point_at_lem r (2 * j + i) (omega arith) ∙ ap (λ (b : Bool). point_of 1 (b ∷ [])) (sym (low_bit j i h l)) in (
        ap (λ (k : ℕ). get_or (written_points T r start f) k origin) first ∙ point 0 (omega arith),
        ap (λ (k : ℕ). get_or (written_points T r start f) k origin) second ∙ point 1 (omega arith),
      )
