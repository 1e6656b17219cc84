-- Accepted tables, their plan and received points: labels that cost least, by the plan's entries, give a nearest frame of the tables; and
-- points in range can be decided.
use Rattle.std.specs.Prelude.{None}
use Prim.Native.Nat.{ℕ, ◌+◌, ◌/◌, ◌≤◌, ◌<◌}
use mathlib.Core.Bool.{Bool, false, ◌||◌}
use mathlib.Core.List.{List, [], ◌∷◌}
use mathlib.Core.Path.{◌≡◌, refl, sym, ap, subst, ◌∙◌}
use native.Mathlib.Omega.{arith}
use borrow.Author.Tests.{ltb-false, leb-true}
use lib.Dec.{leb}
use lib.IntN.{ℤ, pos}
use lib.ListN.{length, take, drop, get_or, replicate, length-append, length-drop, length-map}
use lib.Seq.{take_at, drop_at, length-take-le}
use Rattle.cosets.specs.Meters.{Meter}
use Rattle.cosets.specs.Nearest.{InRange}
use Rattle.frame.specs.Labels.{bits_of_labels, Within, labels_at, Placed}
use Rattle.g9932.proofs.Counts.{Every, every_at, every_append, every_replicate, every_map, every_filter}
use Rattle.g9932.proofs.Formed.{formed_ok, length_pairs_of}
use Rattle.g9932.proofs.Identities.{or-false}
use Rattle.g9932.proofs.Packed.{length_frame, bits_pack, pack_accepted}
use Rattle.g9932.proofs.Pairs.{Ok}
use Rattle.g9932.proofs.Search.{first_no}
use Rattle.g9932.proofs.Sent.{length_classes}
use Rattle.g9932.specs.Bits.{first}
use Rattle.g9932.specs.Nearest.{frame_total, NearestFrame, out_of_range, range_test}
use Rattle.g9932.specs.Order.{Pair, sum, filter, bits_of, pairs_of, reordered_tones, coded_pairs}
use Rattle.g9932.specs.Refusals.{table_verdict, frame_test}
use Rattle.g9932.specs.Sizes.{Tables, entry, Point, points, pack, frame_bits}
use Rattle.g9932.specs.Symbol.{pairs_in, size_of, sent_in, written_points}
use Rattle.g9932.specs.Trellis.{zero_state, encode_pairs, read_pairs, frame, taken_total, sent_of, reading_of}
use Rattle.g9932.specs.declared.Mode.{Mode}
use Rattle.g9932.specs.declared.Mode.TheVariants.{Uncoded, Coded}
use Rattle.passes.proofs.PlanLabels.{plan_placed}
use Rattle.paths.specs.Frames.{pair_by, pairs_by, sent_cost, Labelled, LeastFrame}
use Rattle.paths.specs.Paths.{Inputs}
use Rattle.plan.specs.Plan.{least_own, sharing, PlanIs}
use Rattle.plan.specs.declared.Plan.{Plan}
use Rattle.symbol.proofs.TablePlan.{known, the_plan, entries_by, plain_sum, coded_pairs_lem}
use Rattle.decisions.specs.Deciding.{pair_meters, BestAll, none, more}
use Rattle.decisions.specs.Entries.{meters_in, Decidable}
use Rattle.decisions.proofs.PathLabels.{traced_within, traced_labelled}
use Rattle.nearest.specs.Planned.{Decides, NearestBits}
use Rattle.g9932.proofs.PointLists.{length_points, point_at_lem}
use Rattle.paths.proofs.Frames.{least_frame}
use Rattle.paths.specs.Survivors.{follow}
use Rattle.nearest.proofs.PlanMeters.{meters_cost, bits_in, plan_shared, plan_total, meters_bits, pairs_metered, cost_metered}

-- ---- nearest labels, one after the other

best_length : (ms : List Meter) (d : List Bool) (n : ℕ) → BestAll ms d n → length d ≡ sum (bits_in ms)
best_length [] d n none = refl
best_length (m ∷ ms) d n (more {v = v} {d = r} {n = k} b a) = length-append v r ∙ omega (arith, b.size, best_length ms r k a)

best_cost : (ms : List Meter) (d : List Bool) (n : ℕ) → BestAll ms d n → meters_cost ms d ≡ n
unfolding meters_cost
best_cost [] d n none = refl
best_cost (m ∷ ms) d n (more {v = v} {d = r} {c = c} {n = k} b a) =
    let t = ap m.cost (take_at v r m.bits b.size) in
    let z = ap (meters_cost ms) (drop_at v r m.bits b.size) in
    omega (arith, t, z, b.cost, best_cost ms r k a)

best_least : (ms : List Meter) (d : List Bool) (n : ℕ) → BestAll ms d n → (e : List Bool) → length e ≡ sum (bits_in ms) → n ≤ meters_cost ms e
unfolding meters_cost
best_least [] d n none e h = omega arith
best_least (m ∷ ms) d n (more {d = r} {c = c} {n = k} b a) e h =
    let p = b.least (take m.bits e) (length-take-le m.bits e (omega arith)) in
    let q = best_least ms r k a (drop m.bits e) (length-drop m.bits e ∙ omega arith) in
    omega (arith, p, q)

module _ (T : Tables) (ok : (table_verdict T).number ≡ 0) (p : Plan) (is : PlanIs T p) where
  abbrev es : List ℕ
  es = p.entries.bits.now

  abbrev ps : List ℕ
  ps = p.entries.places.now

  abbrev from : ℕ
  from = p.shared_from.0

  abbrev meters : List Point → List Meter
  meters q = meters_in from q es ps

  same_bits : (q : List Point) → bits_in (meters q) ≡ es
  same_bits q = meters_bits (the_plan T ok p is) q

  -- the total of a frame is what its sent bits cost
  written_total : (q : List Point) → length q ≡ length T.tones → (r start : ℕ) (f : List ℕ) → frame_total T q r start f ≡ meters_cost (meters q) (sent_in T start f)
  unfolding written_points
  written_total q n r start f = plan_total (the_plan T ok p is) q (n ∙ sym (length_classes T)) r (sent_in T start f)

  -- ---- coded

  coded_same : T.mode ≡ Coded → (q : List Point) → pairs_by (pair_meters (meters q)) ≡ pairs_in T
  coded_same m q = pairs_metered (meters q) ∙ ap pairs_of (same_bits q) ∙ coded_pairs_lem T ok p is m

  pub coded_ok : T.mode ≡ Coded → (q : List Point) → Ok (pairs_by (pair_meters (meters q)))
  coded_ok m q = subst Ok (sym (coded_same m q)) (formed_ok (pairs_in T) ((known T ok).coded m).formed)

  coded_total : T.mode ≡ Coded → (q : List Point) → length q ≡ length T.tones → (r start : ℕ) (f : List ℕ)
      → frame_total T q r start f ≡ sent_cost (pair_meters (meters q)) (encode_pairs zero_state (pairs_by (pair_meters (meters q))) (frame_bits start (size_of T) f))
  unfolding sent_of
  coded_total m q n r start f =
      let g : List Bool = frame_bits start (size_of T) f in
      let sent : sent_in T start f ≡ encode_pairs zero_state (pairs_in T) g = ap (λ (z : Mode). sent_of z (pairs_in T) g) m in
      written_total q n r start f ∙ sym (cost_metered (meters q) (sent_in T start f))
      ∙ ap (sent_cost (pair_meters (meters q))) (sent ∙ ap (λ (z : List Pair). encode_pairs zero_state z g) (sym (coded_same m q)))

  taken_all : T.mode ≡ Coded → (q : List Point) → taken_total (pairs_by (pair_meters (meters q))) ≡ size_of T
  taken_all m q = ap taken_total (coded_same m q) ∙ ((known T ok).coded m).taken

  nearest_coded : T.mode ≡ Coded → (q : List Point) → length q ≡ length T.tones → (r start : ℕ) → start ≤ 7 → (g : List Bool) (n : ℕ)
      → LeastFrame (pair_meters (meters q)) g n → NearestFrame T q r start (pack start g) n
  nearest_coded m q l r start small g n best =
      let taken = taken_all m q in
      let size : length g ≡ size_of T = best.size ∙ taken in
      let same : frame_bits start (size_of T) (pack start g) ≡ g = subst (λ (z : ℕ). frame_bits start z (pack start g) ≡ g) size (bits_pack start g) in
      record {
        frame_accepted = subst (λ (z : ℕ). frame_test start z (pack start g) ≡ false) size (pack_accepted start g small);
        total =
            coded_total m q l r start (pack start g)
            ∙ ap (λ (z : List Bool). sent_cost (pair_meters (meters q)) (encode_pairs zero_state (pairs_by (pair_meters (meters q))) z)) same ∙ best.cost;
        least = λ f a. rw (coded_total m q l r start f) (best.least (frame_bits start (size_of T) f) (length_frame start (size_of T) f a ∙ sym taken));
      }

  -- ---- uncoded

  plain_total : T.mode ≡ Uncoded → (q : List Point) → length q ≡ length T.tones → (r start : ℕ) (f : List ℕ)
      → frame_total T q r start f ≡ meters_cost (meters q) (frame_bits start (size_of T) f)
  unfolding sent_of
  plain_total m q n r start f =
      let sent : sent_in T start f ≡ frame_bits start (size_of T) f = ap (λ (z : Mode). sent_of z (pairs_in T) (frame_bits start (size_of T) f)) m in
      written_total q n r start f ∙ ap (meters_cost (meters q)) sent

  plain_whole : T.mode ≡ Uncoded → (q : List Point) → sum (bits_in (meters q)) ≡ size_of T
  plain_whole m q = ap sum (same_bits q) ∙ plain_sum T ok p is m

  nearest_uncoded : T.mode ≡ Uncoded → (q : List Point) → length q ≡ length T.tones → (r start : ℕ) → start ≤ 7 → (d : List Bool) (n : ℕ)
      → BestAll (meters q) d n → NearestFrame T q r start (pack start d) n
  nearest_uncoded m q l r start small d n best =
      let whole = plain_whole m q in
      let size : length d ≡ size_of T = best_length (meters q) d n best ∙ whole in
      let same : frame_bits start (size_of T) (pack start d) ≡ d = subst (λ (z : ℕ). frame_bits start z (pack start d) ≡ d) size (bits_pack start d) in
      record {
        frame_accepted = subst (λ (z : ℕ). frame_test start z (pack start d) ≡ false) size (pack_accepted start d small);
        total = plain_total m q l r start (pack start d) ∙ ap (meters_cost (meters q)) same ∙ best_cost (meters q) d n best;
        least = λ f a. rw (plain_total m q l r start f) (best_least (meters q) d n best (frame_bits start (size_of T) f) (length_frame start (size_of T) f a ∙ sym whole));
      }

  -- every tone has an entry of its own
  pub uncoded_own : T.mode ≡ Uncoded → from ≡ length T.tones
  uncoded_own m =
      let none : sharing T.mode T.bits T.tones ≡ 0 = ap (λ (z : Mode). sharing z T.bits T.tones) m in
      is.shared_is ∙ omega (arith, none)

  -- ---- points in range

  abbrev EntryBits : ℕ → Type 0
  EntryBits n = (least_own T.mode ≤ n) × (n ≤ 15)

  least_two : (m : Mode) → least_own m ≤ 2
  least_two Uncoded = omega arith
  least_two Coded = omega arith

  entries_bits : Every EntryBits es
  entries_bits =
      let m = T.mode in
      let ts : List ℕ = reordered_tones m T.bits T.tones in
      let h : ℕ = sharing m T.bits T.tones / 2 in
      let own : Every EntryBits (filter (leb (least_own m)) (bits_of T.bits ts)) =
      every_filter EntryBits (leb (least_own m)) (λ n. n ≤ 15) (λ n e k. (leb-true (least_own m) n e, k)) (bits_of T.bits ts)
      (every_map (λ n. n ≤ 15) (entry T.bits) (known T ok).bits_most ts) in
      subst (Every EntryBits) (sym (entries_by T ok p is m refl))
      (every_append EntryBits (filter (leb (least_own m)) (bits_of T.bits ts)) (replicate h 2) own (every_replicate EntryBits h 2 (least_two m, omega arith)))

  in_range : (xs ys : List ℤ) (i : ℕ) → i < length xs → length ys ≡ length xs → range_test (points xs ys) i ≡ false → InRange (get_or xs i (pos 0)) × InRange (get_or ys i (pos 0))
  in_range xs ys i h n e =
      let f : out_of_range (get_or xs i (pos 0)) || out_of_range (get_or ys i (pos 0)) ≡ false = rw (point_at_lem xs ys i h n) at e in
      let w = or-false (out_of_range (get_or xs i (pos 0))) (out_of_range (get_or ys i (pos 0))) f in
      (ltb-false 1023 _ w.0, ltb-false 1023 _ w.1)

  pub decidable : (xs ys : List ℤ) → length xs ≡ length T.tones → length ys ≡ length T.tones → first (range_test (points xs ys)) (length T.tones) ≡ None
      → Decidable (least_own T.mode) from es ps xs ys
  decidable xs ys nx ny e =
      let placed : Placed es ps T.tones = plan_placed (the_plan T ok p is) T.tones (sym (length_classes T)) in
      let n : length ys ≡ length xs = ny ∙ sym nx in
      let range : (i : ℕ) → i < length xs → InRange (get_or xs i (pos 0)) × InRange (get_or ys i (pos 0)) =
      λ i h. in_range xs ys i h n (first_no (range_test (points xs ys)) (length T.tones) e i (omega arith)) in
      let bits = every_at EntryBits es entries_bits in
      let two = plan_shared (the_plan T ok p is) in
      record {
        places_length = placed.places_length;
        rising = rw nx placed.rising;
        ys_length = n;
        x_in_range = λ i h. (range i h).0;
        y_in_range = λ i h. (range i h).1;
        bits_least = λ k h. (bits k h).0;
        bits_most = λ k h. (bits k h).1;
        shared_two = λ k h l. (two k h l).0;
        shared_inside = λ k h l. omega (arith, (two k h l).1, length_classes T);
      }

  -- ---- decided labels are a nearest frame's

  module _ (xs ys : List ℤ) (nx : length xs ≡ length T.tones) (ny : length ys ≡ length T.tones) (range : first (range_test (points xs ys)) (length T.tones) ≡ None) where
    abbrev q : List Point
    q = points xs ys

    nq : length q ≡ length T.tones
    nq = length_points xs ys (nx ∙ sym ny) ∙ nx

    pub decided_within : (m : Mode) → T.mode ≡ m → (ls : List ℕ) (n : ℕ) → Decides m from es ps q ls n → Within es (labels_at ps ls) (length es)
    decided_within Uncoded e ls n d = d.within
    decided_within Coded e ls n d = traced_within (coded_decidable e) d.traced
      where
        coded_decidable : T.mode ≡ Coded → Decidable 2 from es ps xs ys
        coded_decidable e = subst (λ (k : Mode). Decidable (least_own k) from es ps xs ys) e (decidable xs ys nx ny range)

    pub bits_nearest_lem : (m : Mode) → T.mode ≡ m → (r start : ℕ) → start ≤ 7 → (ls : List ℕ) (n : ℕ) → Decides m from es ps q ls n
        → NearestBits T m es q r start (bits_of_labels es (labels_at ps ls)) n
    unfolding reading_of
    bits_nearest_lem Uncoded e r start small ls n d =
        let b = bits_of_labels es (labels_at ps ls) in
        record {
          bits = b;
          reads = refl;
          size = best_length (meters q) b n d.best ∙ plain_whole e q;
          nearest = nearest_uncoded e q nq r start small b n d.best;
        }
    bits_nearest_lem Coded e r start small ls n d =
        let b = bits_of_labels es (labels_at ps ls) in
        let k = coded_decidable in
        let p = d.path in
        let us : follow d.survivors ((length es + 1) / 2) 0 zero_state ≡ follow d.survivors (length p.branches) 0 zero_state =
        ap (λ (z : ℕ). follow d.survivors z 0 zero_state) (sym (p.count ∙ count)) in
        let l = subst (λ (u : List Inputs). Labelled zero_state (pair_meters (meters q)) u b) us (traced_labelled k d.traced) in
        let f = least_frame (pair_meters (meters q)) p.branches _ n b (coded_ok e q) p.matches p.shortest l in
        record {
          bits = f.0;
          reads = subst (λ (z : List Pair). read_pairs zero_state z b ≡ frame f.0) (pairs_metered (meters q) ∙ ap pairs_of (same_bits q)) f.1;
          size = f.2.size ∙ taken_all e q;
          nearest = nearest_coded e q nq r start small f.0 n f.2;
        }
      where
        coded_decidable : Decidable 2 from es ps xs ys
        coded_decidable = subst (λ (k : Mode). Decidable (least_own k) from es ps xs ys) e (decidable xs ys nx ny range)

        count : length (pair_meters (meters q)) ≡ (length es + 1) / 2
        count = sym (length-map (pair_meters (meters q)) pair_by) ∙ ap length (pairs_metered (meters q) ∙ ap pairs_of (same_bits q)) ∙ length_pairs_of es

  -- ---- the pairs, for the size of the working buffer

  pub work_pairs : T.mode ≡ Coded → length (pairs_in T) ≡ (length es + 1) / 2
  work_pairs m = ap length (sym (coded_pairs_lem T ok p is m)) ∙ length_pairs_of es

  pub no_pairs : T.mode ≡ Uncoded → length (pairs_in T) ≡ 0
  unfolding coded_pairs
  no_pairs m = ap (λ (z : Mode). length (coded_pairs z T.bits T.tones)) m
