-- A written symbol with every point turned, whatever the turn: which points leave their constellation, that the monitored ones and
-- no others fail 14, and that the bits decoded are the sent ones with every label turned, tone by tone or pair by pair.
use Rattle.std.specs.Prelude.{Option, None, Some}
use Prim.Native.Nat.{ℕ, zero, suc, ◌/◌, ◌%◌, ◌≤◌, ◌<◌}
use mathlib.Core.Bool.{Bool, true, false, not}
use mathlib.Core.List.{List, [], ◌∷◌, ◌++◌, map}
use mathlib.Core.Path.{◌≡◌, refl, sym, ap, ap₂, ◌∙◌}
use native.Mathlib.Omega.{arith}
use borrow.Author.Tests.{ltb-true, ltb-false}
use lib.Dec.{ltb}
use lib.IntN.{ℤ}
use lib.ListN.{length, take, drop, get_or, replicate, length-drop}
use lib.Seq.{length-take-le}
use Rattle.g9932.specs.Bits.{first}
use Rattle.g9932.specs.Sizes.{Tables, entry, class_by, class_of, frame_bits, Point, origin, points}
use Rattle.g9932.specs.Refusals.{accepted, refuse_at}
use Rattle.g9932.specs.Order.{count, is_one, bits_of, ones, reordered_tones, entries, reordered_bits}
use Rattle.g9932.specs.Trellis.{zero_state, encode_pairs, read_pairs, sent_of, reading_of, taken_total}
use Rattle.g9932.specs.Points.{point_of, same_point, label_of}
use Rattle.g9932.specs.Filler.{drawn, after_draws, draws, register_after}
use Rattle.g9932.specs.Symbol.{classes_by, reordered_tones_of, classes_of, is_monitored, first_monitored, pairs_in, size_of, load, tone_point, write_points, sent_in, written_points, in_constellation, is_filler, offgrid_test, monitor_test, tone_bits, gather_bits, reading_in}
use Rattle.g9932.specs.Answers.{report_by, break_in, points_verdict, Read, read_at}
use Rattle.g9932.specs.declared.Class.{Class}
use Rattle.g9932.specs.declared.Class.TheVariants.{Data, Monitored, Silent}
use Rattle.g9932.specs.declared.Mode.{Mode}
use Rattle.g9932.specs.declared.Mode.TheVariants.{Coded}
use Rattle.g9932.proofs.Accepted.{Accepted, AcceptedCoded}
use Rattle.g9932.proofs.Constellations.{same_point→eq, point_inj}
use Rattle.g9932.proofs.Formed.{Formed}
use Rattle.g9932.proofs.Labels.{label_point}
use Rattle.g9932.proofs.Packed.{start_most_lem}
use Rattle.g9932.proofs.Reordering.{nonzero_entries}
use Rattle.g9932.proofs.Search.{first_ext}
use Rattle.g9932.proofs.Sent.{length_classes, load_classes, loads_sum, length_taken}
use Rattle.g9932.proofs.Symbols.{loads}
use Rattle.g9932.proofs.TurnedTones.{turned_labels, tones_pairs}
use Rattle.g9932.proofs.Turns.{Turn, turned_nil, turn_moves, turned_bits}
use Rattle.g9932.proofs.Verdicts.{and_found}
use Rattle.guarantees.specs.Words.{AcceptedFrame, RightLength, Ready, non_zero}
use Rattle.guarantees.proofs.Operations.{reading}
use Rattle.guarantees.proofs.RoundTrip.{length_sent_in}

-- A turn of points and of labels: from `least` bits on, 1 or 2, a turned point is that of the turned label; with fewer it has none.
pub record PointTurn : Type 0 where
  pub labels : Turn
  pub point : Point → Point
  pub least : ℕ
  pub small : least ≤ 2
  pub still : point origin ≡ origin
  pub label : (b : ℕ) (v : List Bool) → least ≤ b → length v ≡ b → point (point_of b v) ≡ point_of b (labels.word v)
  pub off : (b : ℕ) (v : List Bool) → 1 ≤ b → b < least → length v ≡ b → label_of b (point (point_of b v)) ≡ None

-- data tones carry at least one bit
abbrev Loaded : Class → Type 0
Loaded (Data n) = 1 ≤ n
Loaded Monitored = Unit {0}
Loaded Silent = Unit {0}

abbrev pub AllLoaded : List Class → Type 0
AllLoaded [] = Unit {0}
AllLoaded (c ∷ cs) = Loaded c × AllLoaded cs

loaded_class : (b g : ℕ) → Loaded (class_of b g)
loaded_class b g = go (ltb 0 b) refl (ltb 0 g)
  where
    go : (c : Bool) → ltb 0 b ≡ c → (d : Bool) → Loaded (class_by c (Data b) (class_by d Monitored Silent))
    go true e d = ltb-true 0 b e
    go false e true = tt
    go false e false = tt

pub loaded_classes : (b g t : List ℕ) → AllLoaded (classes_by b g t)
loaded_classes b g [] = tt
loaded_classes b g (k ∷ t) = (loaded_class (entry b k) (entry g k), loaded_classes b g t)

-- ---- the pairs of accepted tables, coded, and an accepted frame

module _ (T : Tables) (a : Accepted T) (m : T.mode ≡ Coded) where
  -- N is the number of the entries
  pub is_N : non_zero T ≡ length (entries T.bits T.tones)
  is_N = ap (λ (n : Mode). count (ltb 0) (reordered_bits n T.bits T.tones)) m ∙ nonzero_entries T.bits T.tones

  pub formed_as : (o : Bool) → is_one (non_zero T % 2) ≡ o → Formed o (pairs_in T)
  formed_as o e = rw (← is_N, e) at (a.coded m).formed

  pub taken_bits_lem : (start : ℕ) (f : List ℕ) → AcceptedFrame T start f → length (frame_bits start (size_of T) f) ≡ taken_total (pairs_in T)
  taken_bits_lem start f ok = length_taken T a m start f ok.passes

-- ---- any turn

module _ (turn : PointTurn) where
  abbrev point : Point → Point
  point = turn.point

  abbrev word : List Bool → List Bool
  word = turn.labels.word

  -- a tone whose points leave their constellation
  abbrev pub leaves : Class → Bool
  leaves (Data n) = ltb n turn.least
  leaves Monitored = false
  leaves Silent = false

  -- ---- one tone

  turned_label_lem : (n : ℕ) (v : List Bool) → turn.least ≤ n → length v ≡ n → label_of n (point (point_of n v)) ≡ Some (word v)
  turned_label_lem n v h l = ap (label_of n) (turn.label n v h l) ∙ label_point n (word v) (turn.labels.same_length v ∙ l)

  -- a point of 2 bits never stays
  pub two_moves : (v : List Bool) → length v ≡ 2 → same_point (point (point_of 2 v)) (point_of 2 v) ≡ false
  two_moves v l = go (same_point (point (point_of 2 v)) (point_of 2 v)) refl
    where
      go : (s : Bool) → same_point (point (point_of 2 v)) (point_of 2 v) ≡ s → s ≡ false
      go false e = refl
      go true e =
          let p = same_point→eq (point (point_of 2 v)) (point_of 2 v) e in
          let i = point_inj 2 (word v) v (turn.labels.same_length v ∙ l) l (sym (turn.label 2 v turn.small l) ∙ p) in
          absurd (turn_moves turn.labels v (omega arith) i)

  module _ (r : ℕ) where
    tone_off : (c : Class) (d : List Bool) → Loaded c → load c ≤ length d → not (in_constellation c (point (tone_point r c d))) ≡ leaves c
    tone_off (Data n) d h l = go (ltb n turn.least) refl
      where
        go : (s : Bool) → ltb n turn.least ≡ s → not (in_constellation (Data n) (point (tone_point r (Data n) d))) ≡ s
        go true e = rw (turn.off n (take n d) h (ltb-true n turn.least e) (length-take-le n d l))
        go false e = rw (turned_label_lem n (take n d) (ltb-false n turn.least e) (length-take-le n d l))
    tone_off Monitored d h l = rw (turned_label_lem 2 (drawn 2 r) turn.small refl)
    tone_off Silent d h l = rw turn.still

    tone_filler : (c : Class) (d : List Bool) → not (is_filler c r (point (tone_point r c d))) ≡ is_monitored c
    tone_filler (Data n) d = refl
    tone_filler Monitored d = rw (two_moves (drawn 2 r) refl)
    tone_filler Silent d = refl

    tone_bits_lem : (c : Class) (d : List Bool) → leaves c ≡ false → load c ≤ length d → tone_bits c (point (tone_point r c d)) ≡ word (take (load c) d)
    tone_bits_lem (Data n) d o l = rw (turned_label_lem n (take n d) (ltb-false n turn.least o) (length-take-le n d l))
    tone_bits_lem Monitored d o l = sym (turned_nil turn.labels)
    tone_bits_lem Silent d o l = sym (turned_nil turn.labels)

  -- ---- the symbol

  pub symbol_off : (r : ℕ) (cs : List Class) (d : List Bool) → AllLoaded cs → length d ≡ loads cs → (k : ℕ) → k < length cs
      → offgrid_test cs (map point (write_points r cs d)) k ≡ leaves (get_or cs k Silent)
  unfolding write_points
  symbol_off r [] d h l k i = absurd (omega arith)
  symbol_off r (c ∷ cs) d h l zero i = tone_off r c d h.0 (omega arith)
  symbol_off r (c ∷ cs) d h l (suc k) i = symbol_off (after_draws (draws c) r) cs (drop (load c) d) h.1 (simp length-drop (omega arith)) k (omega arith)

  pub symbol_monitor : (r : ℕ) (cs : List Class) (d : List Bool) (k : ℕ) → k < length cs
      → monitor_test r cs (map point (write_points r cs d)) k ≡ is_monitored (get_or cs k Silent)
  unfolding write_points register_after
  symbol_monitor r [] d k i = absurd (omega arith)
  symbol_monitor r (c ∷ cs) d zero i = tone_filler r c d
  symbol_monitor r (c ∷ cs) d (suc k) i = symbol_monitor (after_draws (draws c) r) cs (drop (load c) d) k (omega arith)

  -- where no point leaves its constellation
  pub symbol_bits : (r : ℕ) (cs : List Class) (d : List Bool) → ((k : ℕ) → k < length cs → leaves (get_or cs k Silent) ≡ false) → length d ≡ loads cs
      → gather_bits cs (map point (write_points r cs d)) ≡ turned_labels word (map load cs) d
  unfolding write_points gather_bits
  symbol_bits r [] d o l = refl
  symbol_bits r (c ∷ cs) d o l =
      ap₂ (λ (x y : List Bool). x ++ y) (tone_bits_lem r c d (o 0 (omega arith)) (omega arith))
      (symbol_bits (after_draws (draws c) r) cs (drop (load c) d) (λ k i. o (suc k) (omega arith)) (simp length-drop (omega arith)))

  -- the first place whose points leave
  abbrev pub first_leaving : Tables → Option ℕ
  first_leaving T = first (λ k. leaves (get_or (classes_of T) k Silent)) (length T.tones)

  -- ---- of accepted tables, coded, for an accepted frame

  module _ (T : Tables) (a : Accepted T) (m : T.mode ≡ Coded) (r start : ℕ) (f : List ℕ) (ok : AcceptedFrame T start f) where
    c : AcceptedCoded T
    c = a.coded m

    abbrev q : List Point
    q = map point (written_points T r start f)

    abbrev g : List Bool
    g = frame_bits start (size_of T) f

    pub off_13 : (k : ℕ) → k < length (classes_of T) → offgrid_test (classes_of T) q k ≡ leaves (get_or (classes_of T) k Silent)
    unfolding written_points
    off_13 = symbol_off r (classes_of T) (sent_in T start f) (loaded_classes T.bits T.gains (reordered_tones_of T)) (length_sent_in T a r start f ok)

    at_13 : first (offgrid_test (classes_of T) q) (length (classes_of T)) ≡ first_leaving T
    at_13 =
        first_ext (offgrid_test (classes_of T) q) (λ k. leaves (get_or (classes_of T) k Silent)) (length (classes_of T)) off_13
        ∙ ap (first (λ k. leaves (get_or (classes_of T) k Silent))) (length_classes T)

    pub at_14 : first (monitor_test r (classes_of T) q) (length (classes_of T)) ≡ first_monitored T
    unfolding written_points
    at_14 =
        first_ext (monitor_test r (classes_of T) q) (λ k. is_monitored (get_or (classes_of T) k Silent)) (length (classes_of T))
        (symbol_monitor r (classes_of T) (sent_in T start f))
        ∙ ap (first (λ k. is_monitored (get_or (classes_of T) k Silent))) (length_classes T)

    -- the verdict on the turned points: 13 at the first that leaves, then 14 at the first monitored tone, then 15
    pub verdict_turned : points_verdict T q r
        ≡ refuse_at 13 (first_leaving T) (refuse_at 14 (first_monitored T) (refuse_at 15 (break_in (reading_in T q)) (accepted (size_of T))))
    unfolding points_verdict
    verdict_turned = and_found 13 14 refl refl _ _ _ ∙ rw (at_13, at_14)

    -- what is read where no point leaves its constellation and two 1-bit tones turn as an entry of 2 does
    module _ (none : (k : ℕ) → k < length (classes_of T) → leaves (get_or (classes_of T) k Silent) ≡ false)
        (twos : (d : List Bool) → length d ≡ ones T.bits T.tones
        → turned_labels word (replicate (ones T.bits T.tones) 1) d ≡ turned_labels word (replicate (ones T.bits T.tones / 2) 2) d) where
      pub decoded_turned : gather_bits (classes_of T) q ≡ turned_bits word (pairs_in T) (encode_pairs zero_state (pairs_in T) g)
      unfolding written_points sent_of
      decoded_turned =
          symbol_bits r (classes_of T) (sent_in T start f) none (length_sent_in T a r start f ok)
          ∙ ap (λ (ns : List ℕ). turned_labels word ns (sent_in T start f))
          (load_classes T.bits T.gains (reordered_tones_of T) ∙ ap (λ (n : Mode). bits_of T.bits (reordered_tones n T.bits T.tones)) m)
          ∙ tones_pairs turn.labels T.bits T.tones c.ones_even twos (sent_in T start f) (length_sent_in T a r start f ok ∙ loads_sum T)
          ∙ ap₂ (turned_bits word) (sym c.pairs) (ap (λ (n : Mode). sent_of n (pairs_in T) g) m)

      pub turned_reading : reading_in T q ≡ read_pairs zero_state (pairs_in T) (turned_bits word (pairs_in T) (encode_pairs zero_state (pairs_in T) g))
      unfolding reading_in reading_of
      turned_reading = ap (λ (n : Mode). reading_of n (pairs_in T) (gather_bits (classes_of T) q)) m ∙ ap (read_pairs zero_state (pairs_in T)) decoded_turned

  -- ---- as reading answers it, from lists that hold the turned points

  module _ (T : Tables) (r start : ℕ) (xs ys : List ℤ) (f₀ : List ℕ) (ready : Ready T r start xs ys f₀) (f : List ℕ) (ok : AcceptedFrame T start f)
      (X Y : List ℤ) (right : RightLength T X Y) (are : points X Y ≡ map point (written_points T r start f)) where
    pub verdict_read : (read_at T X Y r start f₀).report.verdict ≡ points_verdict T (map point (written_points T r start f)) r
    unfolding report_by
    verdict_read =
        ap (λ (a : Read). a.report.verdict) (reading T r start xs ys f₀ ready (start_most_lem start (size_of T) f ok.passes) X Y right)
        ∙ ap (λ (q : List Point). points_verdict T q r) are
