-- Nearest reading from the plan on: what its steps ask one after the other, and what they find together.
use Prim.Native.Nat.{ℕ, ◌+◌, ◌*◌, ◌/◌, ◌≤◌}
use mathlib.Core.List.{List}
use mathlib.Core.Path.{◌≡◌, sym, ap, subst, ◌∙◌}
use native.Mathlib.Omega.{arith}
use lib.IntN.{ℤ}
use lib.ListN.{length, take}
use Rattle.frame.specs.Labels.{bits_of_labels, labels_at, Rising}
use Rattle.frame.specs.Written.{Framed}
use Rattle.g9932.proofs.Packed.{Bytes}
use Rattle.g9932.specs.Answers.{break_in, frame_in}
use Rattle.g9932.specs.Filler.{register_after}
use Rattle.g9932.specs.Nearest.{NearestFrame}
use Rattle.g9932.specs.Sizes.{Tables, Point, points, bytes_for, pack}
use Rattle.g9932.specs.Symbol.{classes_of}
use Rattle.g9932.specs.declared.Mode.{Mode}
use Rattle.g9932.specs.declared.Mode.TheVariants.{Uncoded, Coded}
use Rattle.mapper.specs.Writing.{SetsFiller}
use Rattle.passes.proofs.Points.{framed_bytes}
use Rattle.passes.specs.ReadSymbol.{FrameLabels, ReadsPath}
use Rattle.decisions.specs.declared.CostLists.{CostLists}
use Rattle.decisions.specs.Deciding.{Costed, PlaceLabels}
use Rattle.decisions.specs.Entries.{meters_in}
use Rattle.nearest.specs.Planned.{DecideSupposes, LowNeeds, Lows, Decides, NearestSupposes, ReadsPlanned}
use Rattle.nearest.proofs.Entries.{entry_needs, meter_costs, traced_all, tones_within, tones_best}

-- what the labels hold before they are decided does not matter
pub decide_again : {m : Mode} {from : ℕ} {es ps layouts : List ℕ} {xs ys : List ℤ} {work labels after : List ℕ} → length after ≡ length labels
    → DecideSupposes m from es ps layouts xs ys work labels → DecideSupposes m from es ps layouts xs ys work after
decide_again n d = record { tones = d.tones; laid = d.laid; decidable = d.decidable; many = d.many; labels_length = n ∙ d.labels_length; by_mode = d.by_mode }

-- ---- the steps of deciding

module _ {m : Mode} {from : ℕ} {es ps layouts : List ℕ} {xs ys : List ℤ} {work labels : List ℕ} (d : DecideSupposes m from es ps layouts xs ys work labels)
    {ks : CostLists} (c : Costed layouts (points xs ys) ks (length xs)) where
  abbrev q : List Point
  q = points xs ys

  same : length layouts ≡ length xs
  same = d.tones.layouts_length

  pub low_needs : LowNeeds m from ps layouts ks work labels
  low_needs = go m d
    where
      np : length ps ≡ length es
      np = d.decidable.places_length

      go : (m : Mode) → DecideSupposes m from es ps layouts xs ys work labels → LowNeeds m from ps layouts ks work labels
      go Uncoded d =
          record {
            places =
                record {
                  labels_length = d.labels_length ∙ sym same;
                  few = rw same d.tones.few;
                };
            entries = record { below = λ k h. rw same (d.decidable.rising.below k h); many = omega (arith, d.many, np) };
          }
      go Coded d =
          let w = d.by_mode.1 ∙ ap (λ (z : ℕ). 16 * ((z + 1) / 2)) (sym np) in (
            record { entries = entry_needs (omega arith) d.decidable d.laid same c d.tones.few; enough = omega (arith, d.by_mode.0, np); many = omega (arith, d.many, np); sixteens = w },
            record { rising = subst (Rising ps) (sym d.labels_length) d.decidable.rising; enough = omega (arith, d.by_mode.0, np); many = omega (arith, d.many, np); sixteens = w },
            (meters_in from q es ps, meter_costs (omega arith) d.decidable d.laid same c (omega arith)),
          )

  pub decided : (lows after : List ℕ) (n : ℕ) → Lows m from ps layouts ks lows n → PlaceLabels layouts q lows after (length xs) → Decides m from es ps q after n
  decided lows after n l p = go m d l
    where
      go : (m : Mode) → DecideSupposes m from es ps layouts xs ys work labels → Lows m from ps layouts ks lows n → Decides m from es ps q after n
      go Uncoded d l =
          record {
            within = tones_within (omega arith) d.decidable d.laid same c d.by_mode l p;
            best = tones_best (omega arith) d.decidable d.laid same c d.by_mode l p;
          }
      go Coded d l =
          record {
            survivors = l.survivors;
            path = l.path (meters_in from q es ps) (meter_costs (omega arith) d.decidable d.laid same c (omega arith));
            traced = traced_all (omega arith) d.decidable d.laid same c l.traced p (omega arith);
          }

module _ {T : Tables} {m : Mode} {from size start : ℕ} {es ps ds layouts labels held f work : List ℕ} {xs ys : List ℤ} (s : NearestSupposes T m from size es ps ds layouts xs ys labels held f start work)
    (ls : List ℕ) (n : ℕ) (same : length ls ≡ length labels) (d : Decides m from es ps (points xs ys) ls n) where
  pub frame_labels : FrameLabels m start es ps ls held
  frame_labels = record { placed = s.placed ls same; within = s.within ls n same d; start_most = s.start_most; held_fits = s.held_fits }

  module _ {stored : List ℕ} (reads : ReadsPath m start es (bits_of_labels es (labels_at ps ls)) stored) (kept : length stored ≡ length held) where
    pub frame_fits : length f ≤ length stored
    frame_fits = omega (arith, s.frame_length, s.held_length, s.size_most, s.start_most)

    pub planned_read : {r after : ℕ} {out filled : List ℕ} → SetsFiller ds r labels after filled → Bytes stored → out ≡ take (length f) stored
        → ReadsPlanned T (points xs ys) r start (record { size = size; register = after; total = n }) out
    planned_read {r} {after} {out} draws bytes o =
        let w = s.bits_nearest r ls n same d in
        let framed : Framed start w.bits stored = subst (λ z. Framed start (frame_in z) stored) w.reads (reads.framed (ap break_in w.reads)) in
        let l : length f ≡ bytes_for start (length w.bits) = s.frame_length ∙ ap (bytes_for start) (sym w.size) in
        let packed : out ≡ pack start w.bits = o ∙ framed_bytes start w.bits stored (length f) l frame_fits framed bytes in
        let reg : after ≡ register_after r (classes_of T) = draws.register_is ∙ s.register_is r in
        record {
          size_is = s.size_is;
          register_is = reg;
          nearest = subst (λ z. NearestFrame T (points xs ys) r start z n) (sym packed) w.nearest;
        }
