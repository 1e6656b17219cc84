-- A whole symbol from the plan of accepted tables: what writing and reading ask, and what they find.
use Rattle.std.specs.Prelude.{None, Result, Ok}
use Prim.Native.Nat.{ℕ, ◌≤◌}
use mathlib.Core.Bool.{false}
use mathlib.Core.List.{List}
use mathlib.Core.Path.{◌≡◌, refl, sym, ap, ◌∙◌}
use lib.IntN.{ℤ}
use lib.ListN.{length, take, length-map}
use lib.Seq.{length-take-le}
use Rattle.g9932.proofs.Accepted.{accepted_tables}
use Rattle.g9932.proofs.Formed.{formed_ok}
use Rattle.g9932.proofs.Pairs.{length_read}
use Rattle.g9932.proofs.Search.{first_no, found_not}
use Rattle.g9932.proofs.Symbols.{length_gather}
use Rattle.g9932.specs.Answers.{done, encode_verdict, break_in, frame_in, places_verdict, encode_inputs, read_inputs, Encodes, Reads}
use Rattle.g9932.specs.Bits.{first}
use Rattle.g9932.specs.Order.{sum, bits_of}
use Rattle.g9932.specs.Refusals.{table_verdict, frame_test}
use Rattle.g9932.specs.Sizes.{Tables, Point, bytes_for, most_held}
use Rattle.g9932.specs.Symbol.{classes_of, pairs_in, size_of, offgrid_test, gather_bits, reading_in, written_points}
use Rattle.g9932.specs.Trellis.{Reading, frame, breaks, zero_state, read_pairs, reading_of}
use Rattle.g9932.specs.declared.Done.{Done}
use Rattle.g9932.specs.declared.Refused.{Refused}
use Rattle.g9932.specs.declared.Mode.{Mode}
use Rattle.g9932.specs.declared.Mode.TheVariants.{Uncoded, Coded}
use Rattle.g9932.proofs.Sent.{length_classes, loads_sum, size_uncoded}
use Rattle.g9932.proofs.Verdicts.{found_none, number_none}
use Rattle.plan.specs.Plan.{PlanIs}
use Rattle.plan.specs.declared.Plan.{Plan}
use Rattle.symbol.specs.Inputs.{PlansFor}
use Rattle.passes.specs.ReadSymbol.{ReadSymbolSupposes, ReadSymbolBy, ReadSymbolNeeds, ReadsAnySymbol}
use Rattle.passes.specs.WriteSymbol.{WriteSymbolSupposes, WriteSymbolBy, WriteSymbolNeeds, WritesAnySymbol}
use Rattle.symbol.proofs.Answers.{inputs_encoded, inputs_read, encode_done, read_points}
use Rattle.symbol.proofs.PlannedInputs.{accepts, inputs_pass}
use Rattle.symbol.proofs.TablePlan.{the_plan, label_needs_lem, sent_is, held_fits_lem, reading_is}

-- ---- from the tables' plan

module _ (T : Tables) (ok : (table_verdict T).number ≡ 0) (p : Plan) (is : PlanIs T p) where
  pub symbol_of : (start : ℕ) (f labels : List ℕ) (xs ys : List ℤ) → frame_test start (size_of T) f ≡ false → length labels ≡ length T.tones → length xs ≡ length T.tones → length ys ≡ length T.tones
      → WriteSymbolSupposes T T.mode p.shared_from.0 f start p.entries.bits.now p.entries.places.now p.drawing.now p.layouts.now labels xs ys
  symbol_of start f labels xs ys fits n nx ny =
      let c = length_classes T in
      record {
        plan = the_plan T ok p is;
        label_needs = label_needs_lem T ok p is start f fits labels (n ∙ sym c);
        sent = sent_is T ok p is start f fits;
        labels_length = n ∙ sym c;
        xs_length = nx ∙ sym c;
        ys_length = ny ∙ sym c;
      }

  gathered_length : (q : List Point) (r : ℕ) → (places_verdict (classes_of T) q r).number ≡ 0 → length q ≡ length (classes_of T)
      → length (gather_bits (classes_of T) q) ≡ sum (bits_of T.bits T.tones)
  gathered_length q r pass n =
      let on = (found_none 12 (first (offgrid_test (classes_of T) q) (length (classes_of T))) _ pass).0 in
      length_gather (classes_of T) q n (first_no (offgrid_test (classes_of T) q) (length (classes_of T)) on) ∙ loads_sum T

  -- a frame that is read has L bits
  frame_whole : (q : List Point) (r : ℕ) → (places_verdict (classes_of T) q r).number ≡ 0 → length q ≡ length (classes_of T)
      → break_in (reading_in T q) ≡ None → length (frame_in (reading_in T q)) ≡ size_of T
  unfolding reading_in reading_of
  frame_whole q r pass n = go T.mode refl
    where
      read : T.mode ≡ Coded → (R : Reading) → read_pairs zero_state (pairs_in T) (gather_bits (classes_of T) q) ≡ R → break_in R ≡ None → length (frame_in R) ≡ size_of T
      read e (frame g) d z =
          let c = (accepted_tables T ok).coded e in
          length_read (pairs_in T) zero_state (gather_bits (classes_of T) q) g (formed_ok (pairs_in T) c.formed) (gathered_length q r pass n ∙ sym c.widths) d ∙ c.taken
      read e (breaks k) d z = absurd (found_not z)

      go : (m : Mode) → T.mode ≡ m → break_in (reading_of m (pairs_in T) (gather_bits (classes_of T) q)) ≡ None
          → length (frame_in (reading_of m (pairs_in T) (gather_bits (classes_of T) q))) ≡ size_of T
      go Uncoded e z = gathered_length q r pass n ∙ sym (size_uncoded T e)
      go Coded e z = read e _ refl z

  pub read_of : (size start : ℕ) → start ≤ 7 → (xs ys : List ℤ) (labels held f : List ℕ) → length labels ≡ length T.tones → length xs ≡ length T.tones → length ys ≡ length T.tones
      → length held ≡ most_held → size ≡ size_of T → length f ≡ bytes_for start (size_of T)
      → ReadSymbolSupposes T T.mode p.shared_from.0 size p.entries.bits.now p.entries.places.now p.drawing.now p.layouts.now xs ys labels held f start
  read_of size start small xs ys labels held f n nx ny nh s nf =
      let c = length_classes T in
      record {
        plan = the_plan T ok p is;
        labels_length = n ∙ sym c;
        xs_length = nx ∙ sym c;
        ys_length = ny ∙ sym c;
        start_most = small;
        held_fits = held_fits_lem T ok p is small held nh;
        held_length = nh;
        size_is = s;
        frame_length = nf;
        size_most = (accepted_tables T ok).size_most;
        readings = reading_is T ok p is;
        whole = frame_whole;
      }

-- ---- from the plan, where nothing is refused

-- a layout for each tone
layouts_count : (T : Tables) (p : Plan) → PlanIs T p → length p.layouts.now ≡ length T.tones
layouts_count T p is = ap length is.layouts_are ∙ length-map (classes_of T) _ ∙ length_classes T

-- a label for each tone, where there is room
module _ {T : Tables} {p : Plan} (labels : List ℕ) (room : length T.tones ≤ length labels) (is : PlanIs T p) where
  fit : length p.layouts.now ≤ length labels
  fit = rw (layouts_count T p is) room

  cut : length (take (length p.layouts.now) labels) ≡ length T.tones
  cut = length-take-le (length p.layouts.now) labels fit ∙ layouts_count T p is

module _ {T : Tables} {p : Plan} (labels : List ℕ) (room : length T.tones ≤ length labels) where
  module _ (start r : ℕ) {f : List ℕ} {xs ys : List ℤ} (h : PlansFor T (λ size. encode_inputs start size (length T.tones) (length xs) (length ys) f r) (Ok p)) where
    symbol_by : WriteSymbolBy T p f start labels xs ys
    symbol_by =
        let z = inputs_encoded start (size_of T) (length T.tones) (length xs) (length ys) f r (inputs_pass h) in
        rw h.made.mode_is (symbol_of T (accepts h) p h.made start f _ xs ys z.1 (cut labels room h.made) z.0.0 z.0.1)

    pub symbol_needs : WriteSymbolNeeds p f start labels xs ys
    symbol_needs = record { labels_fit = fit labels room h.made; tables = T; planned = symbol_by }

    pub encode_written : {after : ℕ} {xs_after ys_after : List ℤ} → WritesAnySymbol p f start labels xs ys r after xs_after ys_after
        → Encodes T start f r xs ys (Ok (done p.size after)) xs_after ys_after
    unfolding written_points encode_verdict
    encode_written writes = let w = writes T symbol_by in encode_done T start f r xs ys _ _ _ _ h.answer w.register_is w.xs_hold w.ys_hold

  module _ (r start : ℕ) {xs ys : List ℤ} {held f : List ℕ} (nh : length held ≡ most_held)
      (h : PlansFor T (λ size. read_inputs start size (length T.tones) (length xs) (length ys) (length f) r) (Ok p)) where
    read_by : ReadSymbolBy T p xs ys labels held f start
    read_by =
        let z = inputs_read start (size_of T) (length T.tones) (length xs) (length ys) (length f) r (inputs_pass h) in
        rw h.made.mode_is (read_of T (accepts h) p h.made p.size start z.1 xs ys _ held f (cut labels room h.made) z.0.0.0 z.0.0.1 nh h.made.size_is z.0.1)

    pub read_needs : ReadSymbolNeeds p xs ys labels held f start
    read_needs = record { labels_fit = fit labels room h.made; tables = T; planned = read_by }

    pub read_done : {answer : Result Done Refused} {after : List ℕ} → ReadsAnySymbol p xs ys labels held f start r answer after → Reads T xs ys r start f answer after
    read_done reads = read_points T xs ys r start f (number_none h.answer) _ _ (reads T read_by)
