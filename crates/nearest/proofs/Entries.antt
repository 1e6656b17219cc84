-- From the costs and labels of the places to those of the entries.
use Prim.Native.Nat.{ℕ, suc, ◌+◌, ◌/◌, ◌%◌, ◌^◌, ◌≤◌, ◌<◌}
use mathlib.Core.Bool.{Bool, true, false}
use mathlib.Core.List.{List, [], ◌∷◌}
use mathlib.Core.Path.{◌≡◌, refl, sym, ap, ◌∙◌}
use native.Mathlib.Numerals.{add-one}
use native.Mathlib.Omega.{arith}
use borrow.Author.Tests.{lt-ltb, ltb-true, ltb-false}
use lib.Dec.{ltb}
use lib.IntN.{ℤ}
use Rattle.constellation.specs.Layouts.{layout_of}
use lib.ListN.{length, get_or}
use Rattle.cosets.proofs.Labels.{shared_least, shared_label, best_label, best_one}
use Rattle.cosets.proofs.Shapes.{not_one}
use Rattle.cosets.specs.Meters.{tone_meter, cost_of, LeastOf, BestLabel}
use Rattle.frame.proofs.Labels.{at_get}
use Rattle.frame.specs.Labels.{bits_of_labels, Within, labels_at}
use Rattle.g9932.specs.Bits.{weight, odd, bits}
use Rattle.g9932.specs.Sizes.{entry, Point, origin, most_tones}
use Rattle.decisions.specs.Entries.{meter_by, meters_in, Decidable}
use Rattle.decisions.specs.declared.CostLists.{CostLists}
use Rattle.decisions.specs.Deciding.{Costed, cost_by, EntryNeeds, lone_in, MeterCosts, upper_at, lower_at, low_number, LowTraced, CosetNumber, Traced, PlaceLabels, LeastAt, LeastLows, total_at, BestAll, none, more}
use Rattle.nearest.specs.Planned.{LaidOut}
use Rattle.decisions.proofs.PathLabels.{meters_length, meters_get}

-- ---- numbers of two bits

low_small : (v1 v0 : Bool) → low_number v1 v0 < 4
unfolding weight
low_small true true = omega arith
low_small true false = omega arith
low_small false true = omega arith
low_small false false = omega arith

low_odd : (v1 v0 : Bool) → (odd (low_number v1 v0 / 2) ≡ v1) × (odd (low_number v1 v0) ≡ v0)
unfolding weight odd
low_odd true true = (refl, refl)
low_odd true false = (refl, refl)
low_odd false true = (refl, refl)
low_odd false false = (refl, refl)

low_bits_lem : (v1 v0 : Bool) → bits 2 (low_number v1 v0) ≡ v0 ∷ v1 ∷ []
unfolding bits odd weight
low_bits_lem true true = refl
low_bits_lem true false = refl
low_bits_lem false true = refl
low_bits_lem false false = refl

one_bit_lem : (n : ℕ) → bits 1 n ≡ odd n ∷ []
unfolding bits
one_bit_lem n = refl

-- ---- costs

module _ {least from : ℕ} {es ps layouts : List ℕ} {ks : CostLists} {xs ys : List ℤ} {q : List Point} (two : 1 ≤ least) (d : Decidable least from es ps xs ys) (laid : LaidOut from es ps layouts)
    (same : length layouts ≡ length xs) (c : Costed layouts q ks (length xs)) where
  inside : (k : ℕ) → k < length es → entry ps k < length xs
  inside k h = d.rising.below k (omega (arith, d.places_length))

  pub entry_needs : length xs ≤ most_tones → EntryNeeds from ps
  entry_needs few =
      record {
        inside = λ k h. omega (arith, inside k (omega (arith, d.places_length)));
        shared_inside = λ k h l. omega (arith, d.shared_inside k (omega (arith, d.places_length)) l);
      }

  -- coded, each entry has at least 2 bits
  pub meter_costs : 2 ≤ least → MeterCosts (meters_in from q es ps) from ps ks
  meter_costs h2 =
      let n = meters_length from q es ps d.places_length in
      record {
        count = n ∙ sym d.places_length;
        bits_least = λ k h. rw (meters_get from q es ps k d.places_length (omega (arith, n))) (bits_of_lem (ltb (entry ps k) from) k (omega (arith, n)));
        costs = λ k h. rw (meters_get from q es ps k d.places_length (omega (arith, n))) (go (ltb (entry ps k) from) k refl (omega (arith, n)));
      }
    where
      bits_of_lem : (b : Bool) (k : ℕ) → k < length es → 2 ≤ (meter_by b (entry es k) (entry ps k) q).bits
      bits_of_lem true k h = omega (arith, d.bits_least k h)
      bits_of_lem false k h = omega arith

      go : (b : Bool) (k : ℕ) → ltb (entry ps k) from ≡ b → k < length es → LeastOf (meter_by b (entry es k) (entry ps k) q) (cost_of (cost_by b ks (entry ps k)))
      go true k e h = (c.costs (entry ps k) (inside k h)).tone (entry es k) (omega (arith, d.bits_least k h)) (d.bits_most k h) (laid.own k h (ltb-true (entry ps k) from e))
      go false k e h =
          let l = ltb-false (entry ps k) from e in
          let i = d.shared_inside k h l in
          rw (add-one) (shared_least ((c.costs (entry ps k) (inside k h)).one (laid.first k h l)) ((c.costs (suc (entry ps k)) i).one (laid.second k h l)))

  -- ---- labels of a path

  module _ {σ lows labels : List ℕ} (t : LowTraced ps σ lows (length ps)) (p : PlaceLabels layouts q lows labels (length xs)) where
    pub traced_all : 2 ≤ least → Traced from es ps q σ labels (length es)
    traced_all h2 = record { decided = λ k h. go (ltb (entry ps k) from) k refl h }
      where
        go : (b : Bool) (k : ℕ) → ltb (entry ps k) from ≡ b → k < length es
            → CosetNumber (meter_by b (entry es k) (entry ps k) q) (upper_at σ (lone_in ps + k)) (lower_at σ (lone_in ps + k)) (entry labels (entry ps k))
        go b k e h = by b e
          where
            v1 : Bool
            v1 = upper_at σ (lone_in ps + k)

            v0 : Bool
            v0 = lower_at σ (lone_in ps + k)

            low : entry lows (entry ps k) % 4 ≡ low_number v1 v0
            low = let s = low_small v1 v0 in let z = t.low k (omega (arith, d.places_length)) in omega (arith, z, s)

            by : (b : Bool) → ltb (entry ps k) from ≡ b → CosetNumber (meter_by b (entry es k) (entry ps k) q) v1 v0 (entry labels (entry ps k))
            by true e =
                let l = (p.labelled (entry ps k) (inside k h)).tone (entry es k) (omega (arith, d.bits_least k h)) (d.bits_most k h) (laid.own k h (ltb-true (entry ps k) from e)) in
                let o = low_odd v1 v0 in
                record { small = l.0; nearest = rw (low, o.0, o.1) at l.1 }
            by false e =
                let z : entry labels (entry ps k) ≡ low_number v1 v0 = (p.labelled (entry ps k) (inside k h)).one (laid.first k h (ltb-false (entry ps k) from e)) ∙ low in
                rw z (record { small = low_small v1 v0; nearest = rw (low_bits_lem v1 v0) (shared_label (tone_meter 1 (get_or q (entry ps k) origin)) (tone_meter 1 (get_or q (suc (entry ps k)) origin)) v1 v0) })

  -- ---- uncoded: every tone has an entry of its own

  module _ {lows labels : List ℕ} {n : ℕ} (all : from ≡ length xs) (l : LeastLows layouts ps ks lows n) (p : PlaceLabels layouts q lows labels (length xs)) where
    own : (k : ℕ) → k < length es → entry ps k < from
    own k h = omega (arith, inside k h)

    -- what is decided of entry k
    abbrev Chosen : ℕ → Type 0
    Chosen k = (entry labels (entry ps k) < 2 ^ entry es k) × BestLabel (tone_meter (entry es k) (get_or q (entry ps k) origin)) (bits (entry es k) (entry labels (entry ps k))) (entry l.costs (entry ps k))

    chosen : (k : ℕ) → k < length es → Chosen k
    chosen k h = by (ltb (entry es k) 2) refl
      where
        low : LeastAt layouts ks lows l.costs (entry ps k)
        low = l.least (entry ps k) (rw same (inside k h))

        by : (b : Bool) → ltb (entry es k) 2 ≡ b → Chosen k
        by true e =
            let o : entry es k ≡ 1 = omega (arith, ltb-true (entry es k) 2 e, d.bits_least k h) in
            let lay = laid.own k h (own k h) ∙ ap layout_of o in
            let one = low.one lay in
            let z : entry labels (entry ps k) ≡ entry lows (entry ps k) = omega (arith, (p.labelled (entry ps k) (inside k h)).one lay, one.small) in
            rw (z, o) (omega (arith, one.small), rw (one_bit_lem (entry lows (entry ps k))) (best_one ((c.costs (entry ps k) (inside k h)).one lay) one))
        by false e =
            let b2 = ltb-false (entry es k) 2 e in
            let lay = laid.own k h (own k h) in
            let tone = low.tone (not_one (entry es k) (entry layouts (entry ps k)) b2 (d.bits_most k h) lay) in
            let z : entry lows (entry ps k) % 4 ≡ entry lows (entry ps k) = omega (arith, tone.small) in
            let r = (p.labelled (entry ps k) (inside k h)).tone (entry es k) b2 (d.bits_most k h) lay in
            (r.0, best_label ((c.costs (entry ps k) (inside k h)).tone (entry es k) b2 (d.bits_most k h) lay) tone (rw z at r.1))

    pub tones_within : Within es (labels_at ps labels) (length es)
    tones_within k h = rw (at_get ps labels k (omega (arith, d.places_length))) (chosen k h).0

    pub tones_best : BestAll (meters_in from q es ps) (bits_of_labels es (labels_at ps labels)) n
    tones_best = rw l.total (go es ps d.places_length (λ k h. own k h) (λ k h. (chosen k h).1))
      where
        go : (fs qs : List ℕ) → length qs ≡ length fs → ((k : ℕ) → k < length fs → entry qs k < from)
            → ((k : ℕ) → k < length fs → BestLabel (tone_meter (entry fs k) (get_or q (entry qs k) origin)) (bits (entry fs k) (entry labels (entry qs k))) (entry l.costs (entry qs k)))
            → BestAll (meters_in from q fs qs) (bits_of_labels fs (labels_at qs labels)) (total_at l.costs qs)
        go [] [] e o h = none
        go [] (r ∷ qs) e o h = absurd (omega arith)
        go (f ∷ fs) [] e o h = absurd (omega arith)
        go (f ∷ fs) (r ∷ qs) e o h =
            rw (lt-ltb r from (o 0 (omega arith))) (more (h 0 (omega arith)) (go fs qs (omega arith) (λ k l. o (suc k) (omega arith)) (λ k l. h (suc k) (omega arith))))
