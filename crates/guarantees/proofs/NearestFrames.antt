-- Nearest reading against exact reading: at total 0 the loaded tones have the points of one frame alone, which is the frame that exact
-- reading answers where it reads the points, and it reads them exactly when the tones that carry no data agree too.
use Rattle.std.specs.Prelude.{None}
use Prim.Native.Nat.{ℕ, zero, suc, ◌%◌, ◌≤◌}
use mathlib.Core.Bool.{Bool, false}
use mathlib.Core.List.{List, map}
use mathlib.Core.Logic.{◌↔◌, ◌≢◌}
use mathlib.Core.Path.{◌≡◌, refl, sym, ap, ap₂, ◌∙◌}
use native.Mathlib.Omega.{arith}
use lib.IntN.{ℤ}
use lib.ListN.{length, get_or, length-map}
use Rattle.g9932.specs.Sizes.{Tables, pack, frame_bits, Point, origin, points}
use Rattle.g9932.specs.Refusals.{frame_test}
use Rattle.g9932.specs.Trellis.{frame, reading_of}
use Rattle.g9932.specs.Points.{negated}
use Rattle.g9932.specs.Symbol.{classes_of, pairs_in, size_of, first_monitored, write_points, sent_in, written_points, gather_bits, reading_in}
use Rattle.g9932.specs.Answers.{encode_at, Read, read_at}
use Rattle.g9932.specs.Nearest.{total_of, frame_total, NearestFrame}
use Rattle.g9932.specs.declared.Mode.TheVariants.{Coded}
use Rattle.g9932.proofs.Accepted.{Accepted, accepted_tables}
use Rattle.g9932.proofs.Distances.{total_self, total_bits, total_equal, total_gathered}
use Rattle.g9932.proofs.Packed.{start_most_lem, length_frame, pack_frame}
use Rattle.g9932.proofs.PointLists.{points_both, points_xs, points_ys, length_points}
use Rattle.g9932.proofs.Sent.{length_classes, loads_sum, length_sent_of, read_sent_of, sent_of_read}
use Rattle.g9932.proofs.Symbols.{loads, OnGrid, gather_write, length_gather}
use Rattle.guarantees.specs.Words.{AcceptedFrame, RightLength, Ready, non_zero, turned, SameUnloaded}
use Rattle.guarantees.proofs.HalfTurn.{no_13, reading_odd, reading_even, turned_read, are_points, half_turn_only, half_turn_even}
use Rattle.guarantees.proofs.Operations.{not_broken}
use Rattle.guarantees.proofs.RoundTrip.{packed_frame, packed_points, length_written, X-of, Y-of, encoded_xs, encoded_ys, answered, exactly}

-- ---- totals

module _ {T : Tables} {q : List Point} {r start : ℕ} {f : List ℕ} {n : ℕ} (near : NearestFrame T q r start f n) where
  pub most : (g : List ℕ) → AcceptedFrame T start g → n ≤ frame_total T q r start g
  most g ok = near.least g ok.passes

  pub same_total : (g : List ℕ) (m : ℕ) → NearestFrame T q r start g m → n ≡ m
  same_total g m other = omega (arith, near.least g other.frame_accepted, near.total, other.least f near.frame_accepted, other.total)

-- ---- one frame alone has total 0

bits_of_lem : {g h : List Bool} → frame g ≡ frame h → g ≡ h
bits_of_lem e = cc

module _ (T : Tables) (a : Accepted T) (r start : ℕ) (q : List Point) (long : length q ≡ length T.tones) where
  -- the bits of a frame at total 0 are what the points are read as, 13 and 14 apart
  zero_reading : (f : List ℕ) → frame_test start (size_of T) f ≡ false → frame_total T q r start f ≡ 0
      → reading_in T q ≡ frame (frame_bits start (size_of T) f)
  unfolding written_points reading_in
  zero_reading f ok z =
      let l : length (sent_in T start f) ≡ loads (classes_of T) =
      length_sent_of T a (frame_bits start (size_of T) f) (length_frame start (size_of T) f ok) ∙ sym (loads_sum T) in
      ap (reading_of T.mode (pairs_in T))
      (total_bits (classes_of T) q (written_points T r start f) (long ∙ sym (length_classes T)) (length_written T a r start f ∙ sym (length_classes T)) z
      ∙ gather_write r (classes_of T) (sent_in T start f) l)
      ∙ read_sent_of T a (frame_bits start (size_of T) f) (length_frame start (size_of T) f ok)

  zero_once : (f g : List ℕ) → AcceptedFrame T start f → AcceptedFrame T start g
      → frame_total T q r start f ≡ 0 → frame_total T q r start g ≡ 0 → f ≡ g
  zero_once f g hf hg zf zg =
      sym (pack_frame start (size_of T) f hf.passes hf.bytes)
      ∙ ap (pack start) (bits_of_lem (sym (zero_reading f hf.passes zf) ∙ zero_reading g hg.passes zg))
      ∙ pack_frame start (size_of T) g hg.passes hg.bytes

  module _ (f : List ℕ) (ok : AcceptedFrame T start f) (n : ℕ) (near : NearestFrame T q r start f n) where
    written_nearest : (g : List ℕ) → AcceptedFrame T start g → q ≡ written_points T r start g → (n ≡ 0) × (f ≡ g)
    written_nearest g hg e =
        let zg : frame_total T q r start g ≡ 0 =
        ap (λ (w : List Point). frame_total T w r start g) e ∙ total_self (classes_of T) (written_points T r start g) in
        let z : n ≡ 0 = omega (arith, near.least g hg.passes, zg) in
        (z, zero_once f g ok hg (near.total ∙ z) zg)

    -- at total 0, with the tones that carry no data as they are written
    zero_written : n ≡ 0 → SameUnloaded T q (written_points T r start f) → q ≡ written_points T r start f
    zero_written z same =
        total_equal (classes_of T) q (written_points T r start f) (long ∙ sym (length_classes T))
        (length_written T a r start f ∙ sym (length_classes T)) (near.total ∙ z)
        (λ k h. same k (omega (arith, length_classes T)))

-- ---- exact reading

module _ (T : Tables) (r start : ℕ) (xs ys : List ℤ) (f₀ : List ℕ) (ready : Ready T r start xs ys f₀) (X Y : List ℤ) (right : RightLength T X Y) where
  facts : Accepted T
  facts = accepted_tables T ready.tables

  same_length_lem : length X ≡ length Y
  same_length_lem = right.xs_length ∙ sym right.ys_length

  long : length (points X Y) ≡ length T.tones
  long = length_points X Y same_length_lem ∙ right.xs_length

  written_lists : (g : List ℕ) → AcceptedFrame T start g → points X Y ≡ written_points T r start g
      → (X-of T r start xs ys f₀ ready g ≡ X) × (Y-of T r start xs ys f₀ ready g ≡ Y)
  written_lists g ok e = (
    encoded_xs T r start xs ys f₀ ready g ok ∙ ap (map (λ p. p.px)) (sym e) ∙ points_xs X Y same_length_lem,
    encoded_ys T r start xs ys f₀ ready g ok ∙ ap (map (λ p. p.py)) (sym e) ∙ points_ys X Y same_length_lem,
  )

  -- what is written is read,
  pub written_read : (g : List ℕ) → AcceptedFrame T start g → points X Y ≡ written_points T r start g
      → read_at T X Y r start f₀ ≡ record { report = (encode_at T start g r xs ys).report; frame = g }
  written_read g ok e =
      let l = written_lists g ok e in
      ap₂ (λ (A B : List ℤ). read_at T A B r start f₀) (sym l.0) (sym l.1) ∙ answered T r start xs ys f₀ ready g ok

  -- and what is read is what is written for the frame answered
  pub read_written : (read_at T X Y r start f₀).report.verdict.number ≡ 0
      → (g : List ℕ) × AcceptedFrame T start g × (points X Y ≡ written_points T r start g) × ((read_at T X Y r start f₀).frame ≡ g)
  read_written h =
      let w = (exactly T r start xs ys f₀ ready X Y right).0 h in
      let e : points X Y ≡ written_points T r start w.0 =
      ap₂ points (sym w.2 ∙ encoded_xs T r start xs ys f₀ ready w.0 w.1) (sym w.3 ∙ encoded_ys T r start xs ys f₀ ready w.0 w.1)
      ∙ points_both (written_points T r start w.0) in
      (w.0, w.1, e, ap (λ (b : Read). b.frame) (written_read w.0 w.1 e))

  module _ (f : List ℕ) (ok : AcceptedFrame T start f) (n : ℕ) (near : NearestFrame T (points X Y) r start f n) where
    pub nearest_one : n ≡ 0 → (g : List ℕ) → AcceptedFrame T start g → frame_total T (points X Y) r start g ≡ 0 → g ≡ f
    nearest_one z g hg zg = zero_once T facts r start (points X Y) long g f hg ok zg (near.total ∙ z)

    pub nearest_written : (g : List ℕ) → AcceptedFrame T start g → points X Y ≡ written_points T r start g → (n ≡ 0) × (f ≡ g)
    nearest_written = written_nearest T facts r start (points X Y) long f ok n near

    pub nearest_exact : (read_at T X Y r start f₀).report.verdict.number ≡ 0 → (n ≡ 0) × (f ≡ (read_at T X Y r start f₀).frame)
    nearest_exact h =
        let w = read_written h in
        let e = nearest_written w.0 w.1 w.2 in
        (e.0, e.1 ∙ sym w.3)

    pub nearest_zero : n ≡ 0 → SameUnloaded T (points X Y) (written_points T r start f)
        → (points X Y ≡ written_points T r start f) × (read_at T X Y r start f₀ ≡ record { report = (encode_at T start f r xs ys).report; frame = f })
    nearest_zero z same =
        let e = zero_written T facts r start (points X Y) long f ok n near z same in
        (e, written_read f ok e)

    pub nearest_exactly : ((read_at T X Y r start f₀).report.verdict.number ≡ 0) ↔ ((n ≡ 0) × SameUnloaded T (points X Y) (written_points T r start f))
    nearest_exactly = (only, if)
      where
        only : (read_at T X Y r start f₀).report.verdict.number ≡ 0 → (n ≡ 0) × SameUnloaded T (points X Y) (written_points T r start f)
        only h =
            let w = read_written h in
            let e = nearest_written w.0 w.1 w.2 in
            let same : points X Y ≡ written_points T r start f = w.2 ∙ ap (written_points T r start) (sym e.1) in
            (e.0, λ k h u. ap (λ (p : List Point). get_or p k origin) same)

        if : (n ≡ 0) × SameUnloaded T (points X Y) (written_points T r start f) → (read_at T X Y r start f₀).report.verdict.number ≡ 0
        if h =
            let l = written_lists f ok (nearest_zero h.0 h.1).0 in
            (exactly T r start xs ys f₀ ready X Y right).1 (f, ok, l.0, l.1)

-- ---- half a turn, coded

module _ (T : Tables) (a : Accepted T) (m : T.mode ≡ Coded) (r start : ℕ) (g : List ℕ) (ok : AcceptedFrame T start g) where
  abbrev q : List Point
  q = map negated (written_points T r start g)

  length_q : length q ≡ length T.tones
  length_q = length-map (written_points T r start g) negated ∙ length_written T a r start g

  -- bits that the points are read as give a frame of total 0
  read_total : (h : List Bool) → reading_in T q ≡ frame h → frame_total T q r start (pack start h) ≡ 0
  unfolding reading_in
  read_total h e =
      let on : OnGrid (classes_of T) q = no_13 T a m r start g ok in
      let lq : length q ≡ length (classes_of T) = length_q ∙ sym (length_classes T) in
      let s = sent_of_read T a (gather_bits (classes_of T) q) h (length_gather (classes_of T) q lq on ∙ loads_sum T) e in
      ap (total_of (classes_of T) q) (packed_points T start h s.0 r ∙ ap (write_points r (classes_of T)) s.1) ∙ total_gathered r (classes_of T) q lq on

  module _ (f : List ℕ) (n : ℕ) (near : NearestFrame T q r start f n) where
    zero_half : n ≡ 0 → reading_in T q ≡ frame (frame_bits start (size_of T) f)
    zero_half z = zero_reading T a r start q length_q f near.frame_accepted (near.total ∙ z)

    half_even : non_zero T % 2 ≡ 0 → n ≡ 0
    half_even e =
        let t = reading_even T a m r start g ok e in
        let p = packed_frame T start t.0 t.2 (start_most_lem start (size_of T) g ok.passes) in
        omega (arith, near.least (pack start t.0) p.passes, read_total t.0 t.1)

    half_zero : n ≡ 0 → non_zero T % 2 ≡ 0
    half_zero z = go (non_zero T % 2) refl
      where
        go : (o : ℕ) → non_zero T % 2 ≡ o → non_zero T % 2 ≡ 0
        go zero e = e
        go (suc o) e = absurd (not_broken (sym (zero_half z) ∙ reading_odd T a m r start g ok (omega arith)))

    half_other : n ≡ 0 → f ≢ g
    half_other z same =
        let t = reading_even T a m r start g ok (half_zero z) in
        t.3 (bits_of_lem (sym t.1 ∙ zero_half z) ∙ ap (frame_bits start (size_of T)) same)

-- the turned lists of the page
module _ (T : Tables) (r start : ℕ) (xs ys : List ℤ) (f₀ : List ℕ) (ready : Ready T r start xs ys f₀) (m : T.mode ≡ Coded)
    (g : List ℕ) (ok : AcceptedFrame T start g) where
  known : Accepted T
  known = accepted_tables T ready.tables

  abbrev turned_points : List Point
  turned_points = points (turned (X-of T r start xs ys f₀ ready g)) (turned (Y-of T r start xs ys f₀ ready g))

  module _ (f : List ℕ) (n : ℕ) (near : NearestFrame T turned_points r start f n) where
    near' : NearestFrame T (map negated (written_points T r start g)) r start f n
    near' = rw (are_points T r start xs ys f₀ ready m g ok) at near

    pub nearest_half_turn : (n ≡ 0) ↔ (non_zero T % 2 ≡ 0)
    nearest_half_turn = (half_zero T known m r start g ok f n near', half_even T known m r start g ok f n near')

    pub nearest_half_turn_other : n ≡ 0 → f ≢ g
    nearest_half_turn_other = half_other T known m r start g ok f n near'

    pub nearest_half_turn_exactly : ((turned_read T r start xs ys f₀ ready g).report.verdict.number ≡ 0) ↔ ((first_monitored T ≡ None) × (n ≡ 0))
    nearest_half_turn_exactly = (
      λ h. let e = half_turn_only T r start xs ys f₀ ready m g ok h in (e.0, nearest_half_turn.1 e.1),
      λ h. (half_turn_even T r start xs ys f₀ ready m g ok h.0 (nearest_half_turn.0 h.1)).0,
    )
