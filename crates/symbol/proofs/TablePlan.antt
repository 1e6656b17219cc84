-- Accepted tables and their plan: what writing and reading a symbol ask, in either mode, and that the sent bits are document 01's.
use Prim.Native.Nat.{ℕ, zero, suc, ◌+◌, ◌/◌, ◌%◌, ◌≤◌}
use mathlib.Core.Bool.{Bool, true, false}
use mathlib.Core.List.{List, [], ◌∷◌, ◌++◌, append-nil}
use mathlib.Core.Path.{◌≡◌, refl, sym, ap, ◌∙◌}
use native.Mathlib.Omega.{arith}
use borrow.Author.Tests.{leb-false}
use lib.Dec.{leb}
use lib.ListN.{length, take, drop, replicate}
use Rattle.frame.specs.Labels.{Placed}
use Rattle.g9932.proofs.Accepted.{Accepted, accepted_tables}
use Rattle.g9932.proofs.Packed.{start_most_lem, frame_length_lem}
use Rattle.g9932.proofs.Prefixes.{encode_take}
use Rattle.g9932.specs.Order.{Pair, cons_if, filter, sum, bits_of, entries as coded_entries, pairs_of, reordered_tones}
use Rattle.g9932.specs.Refusals.{table_verdict, frame_test}
use Rattle.g9932.specs.Sizes.{Tables, entry, Point, frame_bits, unpack, bytes_for, most_tones, most_held}
use Rattle.g9932.specs.Symbol.{classes_of, pairs_in, size_of, sent_in, gather_bits, reading_in}
use Rattle.g9932.specs.Trellis.{zero_state, encode_pairs, read_pairs, sent_of, reading_of, taken_total}
use Rattle.g9932.specs.declared.Mode.{Mode}
use Rattle.g9932.specs.declared.Mode.TheVariants.{Uncoded, Coded}
use Rattle.g9932.proofs.Sent.{load_classes, size_uncoded}
use Rattle.plan.proofs.Classes.{plan_of}
use Rattle.plan.specs.Classes.{PlanOf}
use Rattle.plan.specs.Plan.{least_own, sharing, PlanIs}
use Rattle.plan.specs.declared.Plan.{Plan}
use Rattle.passes.specs.ReadSymbol.{HeldFits}
use Rattle.passes.specs.WriteSymbol.{LabelFrameNeeds, sent_for}
use Rattle.trellis.specs.Coding.{FrameNeeds}
use Rattle.passes.proofs.PlanLabels.{plan_placed}

-- ---- uncoded: the entries are the counts that are not 0

sum_loaded : (l : List ℕ) → sum (filter (leb 1) l) ≡ sum l
sum_loaded [] = refl
sum_loaded (n ∷ l) = go (leb 1 n) refl (sum_loaded l)
  where
    go : (c : Bool) → leb 1 n ≡ c → sum (filter (leb 1) l) ≡ sum l → sum (cons_if c n (filter (leb 1) l)) ≡ n + sum l
    go true e h = ap (λ (s : ℕ). n + s) h
    go false e h = omega (arith, h, leb-false 1 n e)

filter_most : (p : ℕ → Bool) (l : List ℕ) → ((k : ℕ) → entry l k ≤ 15) → (k : ℕ) → entry (filter p l) k ≤ 15
filter_most p [] h k = omega arith
filter_most p (n ∷ l) h k = go (p n) k (filter_most p l (λ j. h (suc j)))
  where
    go : (c : Bool) (k : ℕ) → ((k : ℕ) → entry (filter p l) k ≤ 15) → entry (cons_if c n (filter p l)) k ≤ 15
    go true zero rest = h 0
    go true (suc k) rest = rest k
    go false k rest = rest k

module _ (T : Tables) (ok : (table_verdict T).number ≡ 0) where
  pub known : Accepted T
  known = accepted_tables T ok

  pub tones_most_lem : length T.tones ≤ most_tones
  tones_most_lem = omega (arith, known.tones_most, known.table_most)

  sharing_even : sharing T.mode T.bits T.tones % 2 ≡ 0
  sharing_even = go T.mode refl
    where
      go : (m : Mode) → T.mode ≡ m → sharing m T.bits T.tones % 2 ≡ 0
      go Uncoded e = refl
      go Coded e = (known.coded e).ones_even

  module _ (p : Plan) (is : PlanIs T p) where
    abbrev es : List ℕ
    es = p.entries.bits.now

    abbrev ps : List ℕ
    ps = p.entries.places.now

    pub the_plan : PlanOf (classes_of T) p.shared_from.0 es ps p.drawing.now p.layouts.now
    the_plan = plan_of T p known.bits_most sharing_even is

    -- the entries, by the mode
    pub entries_by : (m : Mode) → T.mode ≡ m → es ≡ filter (leb (least_own m)) (bits_of T.bits (reordered_tones m T.bits T.tones)) ++ replicate (sharing m T.bits T.tones / 2) 2
    entries_by m e =
        is.entries_are
        ∙ ap (λ (l : List ℕ). filter (leb (least_own T.mode)) l ++ replicate (sharing T.mode T.bits T.tones / 2) 2) (load_classes T.bits T.gains (reordered_tones T.mode T.bits T.tones))
        ∙ ap (λ (m : Mode). filter (leb (least_own m)) (bits_of T.bits (reordered_tones m T.bits T.tones)) ++ replicate (sharing m T.bits T.tones / 2) 2) e

    plain_entries : T.mode ≡ Uncoded → es ≡ filter (leb 1) (bits_of T.bits T.tones)
    unfolding reordered_tones
    plain_entries e = entries_by Uncoded e ∙ append-nil (filter (leb 1) (bits_of T.bits T.tones))

    pub plain_sum : T.mode ≡ Uncoded → sum es ≡ size_of T
    plain_sum e = ap sum (plain_entries e) ∙ sum_loaded (bits_of T.bits T.tones) ∙ sym (size_uncoded T e)

    plain_most : T.mode ≡ Uncoded → (k : ℕ) → entry es k ≤ 15
    plain_most e k = rw (plain_entries e) (filter_most (leb 1) (bits_of T.bits T.tones) (bits_at T.tones) k)
      where
        bits_at : (t : List ℕ) (k : ℕ) → entry (bits_of T.bits t) k ≤ 15
        bits_at [] k = omega arith
        bits_at (a ∷ t) zero = known.bits_most a
        bits_at (a ∷ t) (suc k) = bits_at t k

    coded_is : T.mode ≡ Coded → es ≡ coded_entries T.bits T.tones
    coded_is e = entries_by Coded e

    pub coded_pairs_lem : T.mode ≡ Coded → pairs_of es ≡ pairs_in T
    coded_pairs_lem e = ap pairs_of (coded_is e) ∙ sym (known.coded e).pairs

    coded_taken : T.mode ≡ Coded → taken_total (pairs_of es) ≡ size_of T
    coded_taken e = ap taken_total (coded_pairs_lem e) ∙ (known.coded e).taken

    coded_many : T.mode ≡ Coded → length es ≤ most_tones
    coded_many e = omega (arith, is.entries_most, tones_most_lem)

    -- ---- writing

    module _ (start : ℕ) (f : List ℕ) (accepted : frame_test start (size_of T) f ≡ false) where
      bytes : length f ≡ bytes_for start (size_of T)
      bytes = frame_length_lem start (size_of T) f accepted

      small : start ≤ 7
      small = start_most_lem start (size_of T) f accepted

      pub label_needs_lem : (labels : List ℕ) → length labels ≡ length (classes_of T) → LabelFrameNeeds T.mode f start es ps labels
      label_needs_lem labels n = go T.mode refl
        where
          placed : Placed es ps labels
          placed = plan_placed the_plan labels n

          go : (m : Mode) → T.mode ≡ m → LabelFrameNeeds m f start es ps labels
          go Uncoded e =
              let s = plain_sum e in
              let b = bytes in
              let a = small in
              let m = known.size_most in
              record { same = placed.places_length; counts = plain_most e; places = placed.rising; bits = omega arith; small = omega arith }
          go Coded e =
              let c = known.coded e in
              let b = bytes in
              let a = small in
              let m = known.size_most in
              let t = coded_taken e in
              let needs : FrameNeeds f start es =
              record {
                wide = rw (coded_is e) c.entries_range;
                enough = rw (coded_is e) c.enough_entries;
                many = coded_many e;
                bits = omega arith;
                small = omega arith;
              } in
              (needs, placed)

      -- the bits sent are document 01's
      pub sent_is : sent_for T.mode f start es ≡ sent_in T start f
      unfolding sent_of
      sent_is = go T.mode refl
        where
          go : (m : Mode) → T.mode ≡ m → sent_for m f start es ≡ sent_of m (pairs_in T) (frame_bits start (size_of T) f)
          go Uncoded e = ap (λ (n : ℕ). take n (drop start (unpack f))) (plain_sum e)
          go Coded e =
              ap (λ (q : List Pair). encode_pairs zero_state q (drop start (unpack f))) (coded_pairs_lem e)
              ∙ sym (encode_take (pairs_in T) zero_state (size_of T) (drop start (unpack f)) (omega (arith, (known.coded e).taken)))

    -- ---- reading

    -- the frame fits the buffer that holds it until it is known to be whole
    pub held_fits_lem : {start : ℕ} → start ≤ 7 → (held : List ℕ) → length held ≡ most_held → HeldFits T.mode start es (length held)
    held_fits_lem {start} small held n = go T.mode refl
      where
        go : (m : Mode) → T.mode ≡ m → HeldFits m start es (length held)
        go Uncoded e = (plain_most e, omega (arith, plain_sum e, known.size_most))
        go Coded e =
            let c = known.coded e in
            (rw (coded_is e) c.entries_range, rw (coded_is e) c.enough_entries, coded_many e, omega (arith, coded_taken e, known.size_most))

    -- the reading of the gathered bits is document 01's
    pub reading_is : (q : List Point) → reading_of T.mode (pairs_of es) (gather_bits (classes_of T) q) ≡ reading_in T q
    unfolding reading_in reading_of
    reading_is q = go T.mode refl
      where
        go : (m : Mode) → T.mode ≡ m → reading_of m (pairs_of es) (gather_bits (classes_of T) q) ≡ reading_of m (pairs_in T) (gather_bits (classes_of T) q)
        go Uncoded e = refl
        go Coded e = ap (λ (ps : List Pair). read_pairs zero_state ps (gather_bits (classes_of T) q)) (coded_pairs_lem e)
