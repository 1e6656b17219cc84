-- Reading points to labels by place, and these to a frame: what the steps ask, and what they find.
use Rattle.std.specs.Prelude.{Option, None, Some, Result, Ok, Err, ⊤}
use Prim.Native.Nat.{ℕ, ◌+◌, ◌-◌, ◌*◌, ◌^◌, ◌≤◌, ◌<◌}
use mathlib.Core.Bool.{Bool, true}
use mathlib.Core.List.{List, ◌++◌, map}
use mathlib.Core.Path.{◌≡◌, refl, sym, ap, subst, ◌∙◌}
use native.Mathlib.Omega.{arith}
use lib.IntN.{ℤ}
use lib.ListN.{length, take, get_or, length-map, length-drop}
use lib.Seq.{get_or-drop}
use Rattle.constellation.specs.Layouts.{class_layout}
use Rattle.frame.proofs.Stores.{written_empty, empty_waits, finished}
use Rattle.frame.specs.Labels.{bits_of_labels, labels_at, Placed}
use Rattle.frame.specs.Written.{empty_writer, written}
use Rattle.frame.specs.declared.BitWriter.{BitWriter}
use Rattle.g9932.proofs.PointLists.{length_points}
use Rattle.g9932.proofs.Search.{found_not}
use Rattle.g9932.proofs.Verdicts.{found_here, found_past}
use Rattle.g9932.specs.Answers.{frame_in}
use Rattle.g9932.specs.Bits.{num, bits, first}
use Rattle.g9932.specs.Filler.{drawn, after_draws}
use Rattle.g9932.specs.Order.{pairs_of}
use Rattle.g9932.specs.Sizes.{entry, origin, points, unpack}
use Rattle.g9932.specs.Symbol.{load, is_filler, offgrid_test, monitor_test}
use Rattle.g9932.specs.Trellis.{reading_of}
use Rattle.g9932.specs.declared.Class.{Class}
use Rattle.g9932.specs.declared.Class.TheVariants.{Silent}
use Rattle.g9932.specs.declared.Mode.{Mode}
use Rattle.g9932.specs.declared.Mode.TheVariants.{Uncoded, Coded}
use Rattle.g9932.specs.declared.Place.{Place}
use Rattle.g9932.specs.declared.Refusal.TheVariants.{Offgrid, Monitor}
use Rattle.mapper.specs.Reading.{DemapAllNeeds, LabelIs, DemapsPoints, CheckNeeds, passes_filler, wrong_filler, ChecksFiller, JoinNeeds, CollectNeeds, CollectsLabels}
use Rattle.mapper.specs.declared.read.FillerRead.{FillerRead}
use Rattle.plan.specs.Plan.{is_drawing}
use Rattle.passes.specs.ReadSymbol.{ReadPlacesSupposes, ReadsPlaces, HeldFits, FrameLabels, ReadFrameSupposes, ReadsFrame, ReadsPath}
use Rattle.decoder.specs.Reading.{ReadLabelNeeds as TrellisNeeds, ReadsLabels, CollectsPairs}
use Rattle.passes.proofs.FillerPlaces.{register_places, wrong_first}
use Rattle.passes.proofs.PlanLabels.{joined, joined_count, by_entry, joined_within, ones_small, plan_placed, where_inside, all_count}
use Rattle.passes.proofs.SymbolPoints.{class_at_lem, load_at, tone_layout, offgrid_first, label_is, carried, label_small, tells_filler, gathered}

-- ---- the places

module _ {cs : List Class} {from : ℕ} {es ps ds layouts labels : List ℕ} {xs ys : List ℤ} (w : ReadPlacesSupposes cs from es ps ds layouts labels xs ys) where
  same : length ys ≡ length xs
  same = w.ys_length ∙ sym w.xs_length

  layouts_count : length layouts ≡ length cs
  layouts_count = ap length w.plan.layouts_are ∙ length-map cs class_layout

  pub demap_needs : DemapAllNeeds layouts xs ys labels
  demap_needs =
      record {
        points =
            record {
              layouts_length = layouts_count ∙ sym w.xs_length;
              ys_length = same;
              of_tones = λ k h.
                  let i : k < length cs = rw w.xs_length at h in
                  rw (w.plan.layouts_are, class_at_lem cs k i) (tone_layout (get_or cs k Silent) (w.plan.carries k i));
            };
        labels_length = w.labels_length ∙ sym w.xs_length;
      }

  pub check_needs : (ls : List ℕ) → length ls ≡ length cs → CheckNeeds ds layouts ls
  check_needs ls n =
      record {
        filler =
            record {
              below = λ k h.
                  let m = w.plan.drawing_are in
                  let i = where_inside is_drawing 0 cs k (rw m at h) in
                  rw m (omega (arith, i.1));
            };
        layouts_length = layouts_count ∙ sym n;
      }

  module _ {ls : List ℕ} {f : Option ℕ} (d : DemapsPoints layouts xs ys ls f) where
    offgrid_is : f ≡ first (offgrid_test cs (points xs ys)) (length cs)
    offgrid_is = offgrid_first cs w.plan.carries xs ys w.xs_length same f (rw w.plan.layouts_are at d.off)

    -- 13
    pub off_found : {k : Place} → f ≡ Some k.0 → (r : ℕ) → ReadsPlaces cs r (points xs ys) (Err (Offgrid k)) ls
    off_found e r = record { answer = found_here 13 _ (sym offgrid_is ∙ e) }

    module _ (on : f ≡ None) {r : ℕ} {c : FillerRead} (k : ChecksFiller ds layouts r ls c) where
      label : (i : ℕ) → i < length cs → LabelIs (class_layout (get_or cs i Silent)) (get_or (points xs ys) i origin) (entry ls i)
      label = label_is cs w.plan.carries xs ys w.xs_length same ls (rw w.plan.layouts_are at (d.labelled on))

      tells : (i : ℕ) → i < length cs → is_drawing (get_or cs i Silent) ≡ true → (s : ℕ)
          → passes_filler (entry layouts i) (entry ls i) (num (drawn 2 s)) ≡ is_filler (get_or cs i Silent) s (get_or (points xs ys) i origin)
      tells i h e s = rw (w.plan.layouts_are, class_at_lem cs i h) (tells_filler (get_or cs i Silent) (get_or (points xs ys) i origin) (entry ls i) e (label i h) s)

      monitor_is_lem : c.monitor ≡ first (monitor_test r cs (points xs ys)) (length cs)
      monitor_is_lem = k.monitor_is ∙ ap (λ (l : List ℕ). wrong_filler r l layouts ls None) w.plan.drawing_are ∙ wrong_first r cs (points xs ys) layouts ls tells

      -- 14
      pub filler_found : {j : Place} → c.monitor ≡ Some j.0 → ReadsPlaces cs r (points xs ys) (Err (Monitor j)) ls
      filler_found e = record { answer = found_past 13 (sym offgrid_is ∙ on) (found_here 14 _ (sym monitor_is_lem ∙ e)) }

      pub none_found : c.monitor ≡ None → ReadsPlaces cs r (points xs ys) (Ok c.register) ls
      none_found e =
          let n : length ls ≡ length cs = d.labels_length ∙ w.xs_length in
          record {
            answer =
                record {
                  passed = found_past 13 (sym offgrid_is ∙ on) (found_past 14 (sym monitor_is_lem ∙ e) refl);
                  register_is = k.register_is ∙ ap (λ (l : List ℕ). after_draws (2 * length l) r) w.plan.drawing_are ∙ register_places cs 0 r;
                  labels_are =
                      record {
                        bits_are = gathered cs (points xs ys) ls (length_points xs ys (sym same) ∙ w.xs_length) n
                            (λ i h. carried (get_or cs i Silent) (get_or (points xs ys) i origin) (entry ls i) (w.plan.carries i h) (label i h));
                        small = λ i h. rw (load_at cs i h) (label_small (get_or cs i Silent) (get_or (points xs ys) i origin) (entry ls i) (w.plan.carries i h) (label i h));
                        labels_length = n;
                      };
                };
          }

-- ---- the frame

-- of labels at their entries' places
module _ {m : Mode} {start : ℕ} {es ps ls held : List ℕ} (w : FrameLabels m start es ps ls held) where
  abbrev d : List Bool
  d = bits_of_labels es (labels_at ps ls)

  pub collect_needs : m ≡ Uncoded → CollectNeeds (empty_writer start) es ps ls held
  collect_needs e =
      let r : HeldFits Uncoded start es (length held) = rw e at w.held_fits in
      record {
        same = w.placed.places_length;
        counts = r.0;
        places = w.placed.rising;
        within = w.within;
        bytes = omega (arith, r.1);
        waits = empty_waits start w.start_most;
      }

  pub trellis_needs : m ≡ Coded → Placed es ps ls × TrellisNeeds (empty_writer start) es (labels_at ps ls) held
  trellis_needs e =
      let r : HeldFits Coded start es (length held) = rw e at w.held_fits in
      let t : TrellisNeeds (empty_writer start) es (labels_at ps ls) held =
      record {
        wide = r.0;
        enough = r.1;
        many = r.2;
        within = w.within;
        bytes = omega (arith, r.3);
        waits = empty_waits start w.start_most;
      } in
      (w.placed, t)

  -- uncoded, the frame's bits are the labels'
  module _ (e : m ≡ Uncoded) {v : BitWriter} {mid : List ℕ} (c : CollectsLabels (empty_writer start) es ps ls held v mid) (same : length mid ≡ length held) where
    -- the last byte is there
    pub collect_fits : v.next < length mid
    collect_fits =
        let r : HeldFits Uncoded start es (length held) = rw e at w.held_fits in
        omega (arith, c.counted, r.1)

    pub collected : {after : List ℕ} → length after ≡ length mid → unpack (take (v.next + 1) after) ≡ written v mid ++ bits (8 - v.fill) 0 → ReadsFrame m start es d (Ok tt) after
    unfolding reading_of
    collected {after} k f =
        let h = collect_fits in
        rw e
        (record {
          broken_is = refl;
          framed = λ _. finished v mid after (omega arith) (omega arith) c.waits f start d (c.whole ∙ rw (written_empty start held));
        })

  -- coded, the code is read
  module _ (e : m ≡ Coded) where
    pub broken_found : {k : ℕ} (mid after : List ℕ) → ReadsLabels (empty_writer start) es (labels_at ps ls) held (Err k) mid → ReadsFrame m start es d (Err k) after
    broken_found mid after b = rw e (record { broken_is = b; framed = λ z. absurd (found_not z) })

    module _ {p : BitWriter} {mid : List ℕ} (c : ReadsLabels (empty_writer start) es (labels_at ps ls) held (Ok p) mid) (same : length mid ≡ length held) where
      -- the last byte is there
      pub read_fits : p.next < length mid
      read_fits =
          let r : HeldFits Coded start es (length held) = rw e at w.held_fits in
          omega (arith, c.counted, r.3)

      pub none_broken : {after : List ℕ} → length after ≡ length mid → unpack (take (p.next + 1) after) ≡ written p mid ++ bits (8 - p.fill) 0
          → ReadsFrame m start es d (Ok tt) after
      none_broken {after} k f =
          let h = read_fits in
          rw e
          (record {
            broken_is = sym c.unbroken;
            framed = λ _. finished p mid after (omega arith) (omega arith) c.waits f start (frame_in (reading_of Coded (pairs_of es) d)) (c.whole ∙ rw (written_empty start held));
          })

  -- coded, no pair is tested
  module _ (e : m ≡ Coded) {v : BitWriter} {mid : List ℕ} (c : CollectsPairs (empty_writer start) es (labels_at ps ls) held v mid) (same : length mid ≡ length held) where
    -- the last byte is there
    pub path_fits : v.next < length mid
    path_fits =
        let r : HeldFits Coded start es (length held) = rw e at w.held_fits in
        omega (arith, c.counted, r.3)

    pub path_read : {after : List ℕ} → length after ≡ length mid → unpack (take (v.next + 1) after) ≡ written v mid ++ bits (8 - v.fill) 0 → ReadsPath m start es d after
    path_read {after} k f =
        let h = path_fits in
        rw e
        (record {
          framed = λ z. finished v mid after (omega arith) (omega arith) c.waits f start (frame_in (reading_of Coded (pairs_of es) d)) (c.whole z ∙ rw (written_empty start held));
        })

-- of labels by place, joined where two tones share one
module _ {m : Mode} {start : ℕ} {cs : List Class} {d : List Bool} {from : ℕ} {es ps ds layouts labels held : List ℕ} (w : ReadFrameSupposes m start cs d from es ps ds layouts labels held) where
  abbrev small : (k : ℕ) → k < length cs → 1 ≤ entry (map load cs) k → entry labels k < 2 ^ entry (map load cs) k
  small = w.labelled.small

  abbrev n : length labels ≡ length cs
  n = w.labelled.labels_length

  abbrev ls : List ℕ
  ls = joined w.plan labels n

  pub join_needs : JoinNeeds labels from
  join_needs =
      record {
        inside = omega (arith, all_count w.plan, n);
        ones = λ i l h.
            let k : from + (i - from) ≡ i = omega arith in
            rw (get_or-drop from labels (i - from) 0, k) at (ones_small w.plan labels n small (i - from) (omega (arith, length-drop from labels)));
      }

  pub joined_labels : FrameLabels m start es ps ls held
  joined_labels =
      record {
        placed = plan_placed w.plan ls (joined_count w.plan labels n);
        within = joined_within w.plan labels n small;
        start_most = w.start_most;
        held_fits = w.held_fits;
      }

  pub joined_reads : {b : Result ⊤ ℕ} {after : List ℕ} → ReadsFrame m start es (bits_of_labels es (labels_at ps ls)) b after → ReadsFrame m start es d b after
  joined_reads {b} {after} r = subst (λ (e : List Bool). ReadsFrame m start es e b after) (by_entry w.plan labels n small ∙ w.labelled.bits_are) r
