-- All pairs of the entries read: with a 0 in front where their count is odd.
use Rattle.std.specs.Prelude.{Option, None, Some, Result, Ok, Err}
use mathlib.Core.Path.{◌≡◌, refl, sym, ap, ◌∙◌}
use mathlib.Core.Bool.{Bool, true, false}
use mathlib.Core.List.{List, ◌∷◌, ◌++◌, append_assoc}
use Prim.Native.Nat.{ℕ, suc, ◌+◌, ◌%◌, ◌≤◌}
use native.Mathlib.Nat.{zero-add}
use native.Mathlib.Omega.{arith}
use lib.ListN.{length, take, drop, get_or}
use lib.Seq.{take_at, drop_at}
use Rattle.frame.proofs.Labels.{labels_drop}
use Rattle.frame.specs.Labels.{bits_of_labels}
use Rattle.frame.specs.Written.{written, bits_put}
use Rattle.g9932.proofs.Pairs.{read_on, read_stop}
use Rattle.g9932.proofs.Words.{length_bits}
use Rattle.g9932.specs.Answers.{break_in, frame_in}
use Rattle.g9932.specs.Bits.{bits}
use Rattle.g9932.specs.Order.{pair, in_twos, pairs_of}
use Rattle.g9932.specs.Trellis.{Reading, frame, breaks, after as after', last_two, taken, width, decoded_word, decoded_at, obeys_code, taken_bits, zero_state, reading_of, taken_total}
use Rattle.frame.specs.declared.BitWriter.{BitWriter}
use Rattle.decoder.specs.Reading.{first_reader, decoded_in, ReadPairNeeds, GoesOn, ReadPairsNeeds, onward, reading_from, ReadsFrom, ReadLabelNeeds, reading_all, ReadsPairs}
use Rattle.decoder.specs.declared.Reader.{Reader}
use Rattle.trellis.proofs.Entries.{whole_pairs, padded_pairs, not_forced, padded_taken}
use Rattle.g9932.proofs.Search.{found_not}
use Rattle.decoder.proofs.DecodePair.{first_takes}

onward_zero : (f : Option ℕ) → onward 0 f ≡ f
onward_zero (Some k) = ap Some (zero-add k)
onward_zero None = refl

break_after : (b : List Bool) (r : Reading) → break_in (after' b r) ≡ onward 1 (break_in r)
break_after b (frame f) = refl
break_after b (breaks k) = ap Some (let e : suc k ≡ 1 + k = omega arith in e)

frame_after : (b : List Bool) (r : Reading) → onward 1 (break_in r) ≡ None → frame_in (after' b r) ≡ b ++ frame_in r
frame_after b (frame f) z = refl
frame_after b (breaks k) z = absurd (found_not z)

unbroken_after : (b : List Bool) (r : Reading) → break_in (after' b r) ≡ None → break_in r ≡ None
unbroken_after b (frame f) z = refl
unbroken_after b (breaks k) z = absurd (found_not z)

module _ {w : BitWriter} {es labels out : List ℕ} (needs : ReadLabelNeeds w es labels out) (same : length labels ≡ length es) where
  -- an even count
  module _ (even : length es % 2 ≡ 1 → ⊥) where
    pub even_needs : ReadPairsNeeds (first_reader w) es 0 labels out
    even_needs =
        record {
          inside = omega arith;
          labels_fit = omega (arith, same);
          within = needs.within;
          bytes = rw (← (whole_pairs es even)) (omega (arith, needs.bytes));
          waits = needs.waits;
        }

    even_reading : reading_all es labels ≡ reading_from (first_reader w) es 0 labels
    unfolding reading_of
    even_reading = rw (whole_pairs es even)

    pub even_read : (check : Bool) (r : Result BitWriter ℕ) (after : List ℕ) → ReadsFrom check (first_reader w) es 0 labels out r after → ReadsPairs check w es labels out r after
    even_read check (Ok v) after g = (
      λ t. rw even_reading (g.0 t),
      record {
        whole = λ z. rw even_reading (g.1.whole (rw even_reading at z));
        waits = g.1.waits;
        counted = g.1.counted ∙ rw (← (whole_pairs es even));
      },
    )
    even_read check (Err k) after g = (g.0, rw even_reading (sym (onward_zero (break_in (reading_from (first_reader w) es 0 labels))) ∙ g.1))

  -- an odd count: the first pair has x = 0
  module _ {y : ℕ} (odd : length es % 2 ≡ 1) (hy : y ≡ get_or es 0 0) where
    padded : pairs_of es ≡ pair 0 y ∷ in_twos (drop 1 es)
    padded = padded_pairs es y needs.enough odd hy

    forced_not : false ≡ last_two (in_twos (drop 1 es))
    forced_not = not_forced es needs.enough odd

    module _ {l : ℕ} (hl : l ≡ get_or labels 0 0) where
      pub first_needs : (2 ≤ y) × (y ≤ 15) × ReadPairNeeds (first_reader w) (pair 0 y) 0 l out
      first_needs =
          let a = needs.wide 0 (omega (arith, needs.enough)) in
          let p : ReadPairNeeds (first_reader w) (pair 0 y) 0 l out =
          record {
            v_small = omega arith;
            w_small = rw (hl, hy) (needs.within 0 (omega (arith, needs.enough)));
            bytes = omega (arith, needs.bytes);
            waits = needs.waits;
          } in
          (rw hy a.0, rw hy a.1, p)

      -- the first label, and those after it
      cut_first : bits_of_labels es labels ≡ bits y l ++ bits_of_labels (drop 1 es) (drop 1 labels)
      cut_first = labels_drop es labels 0 (omega (arith, needs.enough)) (omega (arith, needs.enough, same)) ∙ rw (← hl, ← hy)

      decoded_is : decoded_at (pair 0 y) (bits_of_labels es labels) ≡ decoded_in (pair 0 y) 0 l
      unfolding bits
      decoded_is = ap (decoded_word 0) (ap (take (0 + y)) cut_first ∙ take_at (bits y l) (bits_of_labels (drop 1 es) (drop 1 labels)) (0 + y) (length_bits y l ∙ omega arith))

      after_is : drop (width (pair 0 y)) (bits_of_labels es labels) ≡ bits_of_labels (drop 1 es) (drop 1 labels)
      after_is = ap (drop (0 + y)) cut_first ∙ drop_at (bits y l) (bits_of_labels (drop 1 es) (drop 1 labels)) (0 + y) (length_bits y l ∙ omega arith)

      abbrev obeys : Bool
      obeys = obeys_code false zero_state (decoded_in (pair 0 y) 0 l)

      obeys_is : obeys ≡ obeys_code (last_two (in_twos (drop 1 es))) zero_state (decoded_in (pair 0 y) 0 l)
      obeys_is = ap (λ (b : Bool). obeys_code b zero_state (decoded_in (pair 0 y) 0 l)) forced_not

      -- it breaks the code
      pub first_broken : obeys ≡ false → break_in (reading_all es labels) ≡ Some 0
      unfolding reading_of
      first_broken e =
          let r : reading_all es labels ≡ breaks 0 =
          rw padded (read_stop (pair 0 y) (in_twos (drop 1 es)) zero_state (bits_of_labels es labels) (rw decoded_is (sym obeys_is ∙ e))) in
          ap break_in r

      first_obeys : break_in (reading_all es labels) ≡ None → obeys ≡ true
      first_obeys z = go obeys refl
        where
          go : (b : Bool) → obeys ≡ b → obeys ≡ true
          go true e = e
          go false e = absurd (found_not (sym (first_broken e) ∙ z))

      module _ {check : Bool} {p : Reader} {mid : List ℕ} (first : GoesOn check (first_reader w) false (pair 0 y) 0 l out p mid) where
        first_count : bits_put p.writer ≡ bits_put w + taken false (pair 0 y)
        first_count =
            let q = first_needs in
            first.puts.counted ∙ omega (arith, first_takes y l q.0 q.2.w_small)

        pub odd_needs : length mid ≡ length out → ReadPairsNeeds p es 1 labels mid
        odd_needs kept =
            let t = padded_taken es y needs.enough odd hy in
            record {
              inside = omega (arith, needs.enough);
              labels_fit = omega (arith, same);
              within = needs.within;
              bytes = rw (kept, first_count) (omega (arith, needs.bytes));
              waits = first.puts.waits;
            }

        all_count : {n : ℕ} → n ≡ bits_put p.writer + taken_total (in_twos (drop 1 es)) → n ≡ bits_put w + taken_total (pairs_of es)
        all_count e = e ∙ rw first_count (omega (arith, padded_taken es y needs.enough odd hy))

        abbrev begun : List Bool
        begun = taken_bits false 0 (decoded_in (pair 0 y) 0 l)

        -- it obeys it
        odd_reading : obeys ≡ true → reading_all es labels ≡ after' begun (reading_from p es 1 labels)
        unfolding reading_of
        odd_reading e =
            rw padded
            (read_on (pair 0 y) (in_twos (drop 1 es)) zero_state (bits_of_labels es labels) (decoded_in (pair 0 y) 0 l) (bits_of_labels (drop 1 es) (drop 1 labels)) decoded_is after_is (sym obeys_is ∙ e)
            ∙ rw (← forced_not, first.state))

        odd_break : obeys ≡ true → break_in (reading_all es labels) ≡ onward 1 (break_in (reading_from p es 1 labels))
        odd_break e = ap break_in (odd_reading e) ∙ break_after begun (reading_from p es 1 labels)

        pub odd_read : (r : Result BitWriter ℕ) (after : List ℕ) → ReadsFrom check p es 1 labels mid r after → ReadsPairs check w es labels out r after
        odd_read (Ok v) after g = (
          λ t. odd_break (first.obeys t) ∙ ap (onward 1) (g.0 t),
          record {
            whole =
                λ z. let o = odd_reading (first_obeys z) in
                let f : Reading = reading_from p es 1 labels in
                let n = odd_break (first_obeys z) in
                g.1.whole (unbroken_after begun f (sym (ap break_in o) ∙ z))
                ∙ rw first.puts.holds
                (append_assoc (written w out) begun (frame_in f) ∙ ap (λ (x : List Bool). written w out ++ x) (sym (ap frame_in o ∙ frame_after begun f (sym n ∙ z))));
            waits = g.1.waits;
            counted = all_count g.1.counted;
          },
        )
        odd_read (Err k) after g = (g.0, odd_break (first.obeys g.0) ∙ g.1)
