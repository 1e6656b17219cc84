-- A whole symbol by the plan of its tables: what its passes ask one after the other, and what they find together.
use Rattle.std.specs.Prelude.{None, Result, Ok, Err, ⊤}
use Prim.Native.Nat.{ℕ, ◌≤◌}
use mathlib.Core.List.{List}
use mathlib.Core.Path.{◌≡◌, sym, ap, ◌∙◌}
use native.Mathlib.Omega.{arith}
use lib.IntN.{ℤ}
use lib.ListN.{length, take}
use Rattle.frame.specs.Written.{Framed}
use Rattle.g9932.proofs.Packed.{Bytes}
use Rattle.g9932.specs.Answers.{done, refused_with, break_in, frame_in}
use Rattle.g9932.specs.Sizes.{Tables, Point, points, bytes_for}
use Rattle.g9932.specs.Symbol.{classes_of, gather_bits, reading_in, sent_in}
use Rattle.g9932.specs.declared.Mode.{Mode}
use Rattle.g9932.specs.declared.Refusal.{Refusal}
use Rattle.g9932.specs.declared.Refusal.TheVariants.{Trellis}
use Rattle.g9932.proofs.PointLists.{length_points}
use Rattle.g9932.proofs.Verdicts.{number_none}
use Rattle.passes.specs.ReadSymbol.{ReadSymbolSupposes, ReadPlacesSupposes, PlacesDone, PlacesBy, ReadsAnyPlaces, ReadFrameSupposes, broken_at, ReadsFrame, ReadsAnyFrame, ReadsPoints}
use Rattle.passes.specs.WriteSymbol.{EntryLabels, WritePointsSupposes, WriteSymbolSupposes, sent_for}
use Rattle.passes.proofs.Points.{framed_bytes, points_refused, place_found, break_found, points_done}

-- ---- writing

pub points_of : {T : Tables} {m : Mode} {from start : ℕ} {f es ps ds layouts labels after : List ℕ} {xs ys : List ℤ} → WriteSymbolSupposes T m from f start es ps ds layouts labels xs ys
    → length after ≡ length labels → EntryLabels (sent_for m f start es) es ps after → WritePointsSupposes (classes_of T) (sent_in T start f) from es ps ds layouts after xs ys
points_of s n l =
    record {
      plan = s.plan;
      labelled = rw s.sent at l;
      labels_length = n ∙ s.labels_length;
      xs_length = s.xs_length;
      ys_length = s.ys_length;
    }

-- ---- reading

module _ {T : Tables} {m : Mode} {from size start : ℕ} {es ps ds layouts labels held f : List ℕ} {xs ys : List ℤ} (s : ReadSymbolSupposes T m from size es ps ds layouts xs ys labels held f start) where
  pub places_of : ReadPlacesSupposes (classes_of T) from es ps ds layouts labels xs ys
  places_of = record { plan = s.plan; labels_length = s.labels_length; xs_length = s.xs_length; ys_length = s.ys_length }

  module _ {r : ℕ} {t : Result ℕ Refusal} {after : List ℕ} (places : ReadsAnyPlaces ds layouts labels xs ys r t after) where
    found : PlacesBy (classes_of T) r (points xs ys) t after
    found = (places (classes_of T) from es ps places_of).answer

    -- 13 or 14
    pub place_refused : {x : Refusal} → t ≡ Err x → ReadsPoints T (points xs ys) r f start (Err (refused_with x r)) f
    place_refused {x} e =
        let by : PlacesBy (classes_of T) r (points xs ys) (Err x) after = rw e at found in
        points_refused T _ _ _ _ x (place_found T (points xs ys) r x by)

    module _ {k : ℕ} (e : t ≡ Ok k) where
      passed : PlacesDone (classes_of T) r (points xs ys) k after
      passed = rw e at found

      pub frame_of : ReadFrameSupposes m start (classes_of T) (gather_bits (classes_of T) (points xs ys)) from es ps ds layouts after held
      frame_of = (record { plan = s.plan; labelled = passed.labels_are; start_most = s.start_most; held_fits = s.held_fits })

      module _ {b : Result ⊤ ℕ} {stored : List ℕ} (frames : ReadsAnyFrame m start from es ps after held b stored) where
        reads : ReadsFrame m start es (gather_bits (classes_of T) (points xs ys)) b stored
        reads = frames (classes_of T) _ ds layouts frame_of

        breaks_at : broken_at b ≡ break_in (reading_in T (points xs ys))
        breaks_at = reads.broken_is ∙ ap break_in (s.readings (points xs ys))

        -- 15
        pub pair_refused : {j : ℕ} → b ≡ Err j → ReadsPoints T (points xs ys) r f start (Err (refused_with (Trellis j) r)) f
        pair_refused {j} e = points_refused T _ _ _ _ _ (break_found T _ _ passed j (sym breaks_at ∙ ap (λ (r : Result ⊤ ℕ). broken_at r) e))

        module _ (same : length stored ≡ length held) where
          pub frame_fits : length f ≤ length stored
          frame_fits = omega (arith, s.frame_length, s.held_length, s.size_most, s.start_most)

          pub frame_read : broken_at b ≡ None → Bytes stored → {out : List ℕ} → out ≡ take (length f) stored → ReadsPoints T (points xs ys) r f start (Ok (done size k)) out
          frame_read whole bytes {out} o =
              let q : List Point = points xs ys in
              let framed : Framed start (frame_in (reading_in T q)) stored = rw (s.readings q) at (reads.framed whole) in
              let nq : length q ≡ length (classes_of T) = length_points xs ys (s.xs_length ∙ sym s.ys_length) ∙ s.xs_length in
              let broken : break_in (reading_in T q) ≡ None = sym breaks_at ∙ whole in
              let n : length f ≡ bytes_for start (length (frame_in (reading_in T q))) = s.frame_length ∙ ap (bytes_for start) (sym (s.whole q r (number_none passed.passed) nq broken)) in
              points_done T _ _ passed size s.size_is broken start f out (o ∙ framed_bytes start (frame_in (reading_in T q)) stored (length f) n frame_fits framed bytes)
