-- Writing the points of labels: what the steps ask, and that the points are the symbol's.
use Prim.Native.Nat.{ℕ, ◌*◌, ◌^◌, ◌≤◌, ◌<◌}
use mathlib.Core.Bool.{Bool}
use mathlib.Core.List.{List, [], ◌∷◌, map}
use mathlib.Core.Path.{◌≡◌, refl, sym, ap, ◌∙◌}
use native.Mathlib.Omega.{arith}
use lib.IntN.{ℤ}
use lib.ListN.{length, take, get_or, set, length-set, length-map}
use Rattle.constellation.specs.Layouts.{class_layout}
use Rattle.frame.specs.Labels.{bits_of_labels}
use Rattle.g9932.proofs.Symbols.{length_write}
use Rattle.g9932.specs.Bits.{num}
use Rattle.g9932.specs.Filler.{drawn, after_draws, register_after}
use Rattle.g9932.specs.Sizes.{entry, Point, origin, point_at}
use Rattle.g9932.specs.Symbol.{load, write_points}
use Rattle.g9932.specs.declared.Class.{Class}
use Rattle.g9932.specs.declared.Class.TheVariants.{Silent}
use Rattle.mapper.specs.Writing.{FillerNeeds, with_filler, PutNeeds, PutsPoints}
use Rattle.plan.specs.Plan.{is_drawing}
use Rattle.passes.specs.WriteSymbol.{WritePointsSupposes, WritesPoints}
use Rattle.passes.proofs.FillerPlaces.{filled, filler_placed, register_places}
use Rattle.passes.proofs.PlanLabels.{split, split_count, by_place, split_within, where_inside, all_count}
use Rattle.passes.proofs.SymbolPoints.{class_at_lem, load_at, write_at, mappable, mapped, lists_are}

length_filler : (r : ℕ) (ds ls : List ℕ) → length (with_filler r ds ls) ≡ length ls
length_filler r [] ls = refl
length_filler r (p ∷ ds) ls = length_filler (after_draws 2 r) ds (set ls p (num (drawn 2 r))) ∙ length-set ls p (num (drawn 2 r))

module _ {cs : List Class} {d : List Bool} {from : ℕ} {es ps ds layouts labels : List ℕ} {xs ys : List ℤ} (w : WritePointsSupposes cs d from es ps ds layouts labels xs ys) where
  abbrev ls : List ℕ
  ls = split w.plan labels w.labels_length

  pub shared_inside_lem : from ≤ length labels
  shared_inside_lem = omega (arith, all_count w.plan, w.labels_length)

  pub filler_needs : FillerNeeds ds ls
  filler_needs =
      record {
        below = λ k h.
            let n = split_count w.plan labels w.labels_length in
            let m = w.plan.drawing_are in
            let i = where_inside is_drawing 0 cs k (rw m at h) in
            rw m (omega (arith, i.1));
      }

  small : (k : ℕ) → k < length cs → 1 ≤ load (get_or cs k Silent) → entry ls k < 2 ^ load (get_or cs k Silent)
  small k h = rw (load_at cs k h) at (split_within w.plan labels w.labels_length w.labelled.within k h)

  module _ (r : ℕ) where
    held : (k : ℕ) → k < length cs → entry (with_filler r ds ls) k ≡ filled (get_or cs k Silent) (register_after r (take k cs)) (entry ls k)
    held k h = ap (λ (l : List ℕ). entry (with_filler r l ls) k) w.plan.drawing_are ∙ filler_placed cs r ls (split_count w.plan labels w.labels_length) k h

    layout : (k : ℕ) → k < length cs → entry layouts k ≡ class_layout (get_or cs k Silent)
    layout k h = ap (λ (l : List ℕ). entry l k) w.plan.layouts_are ∙ class_at_lem cs k h

    pub put_needs : PutNeeds layouts (with_filler r ds ls) xs ys
    put_needs =
        record {
          layouts_length = ap length w.plan.layouts_are ∙ length-map cs class_layout ∙ sym w.xs_length;
          labels_length = length_filler r ds ls ∙ split_count w.plan labels w.labels_length ∙ sym w.xs_length;
          ys_length = w.ys_length ∙ sym w.xs_length;
          mappable = λ k h.
              let i : k < length cs = rw w.xs_length at h in
              rw (layout k i, held k i) (mappable (get_or cs k Silent) (register_after r (take k cs)) (entry ls k) (w.plan.carries k i) (small k i));
        }

    pub written : {after : ℕ} {xs_after ys_after : List ℤ} → after ≡ after_draws (2 * length ds) r → length xs_after ≡ length xs → length ys_after ≡ length ys
        → PutsPoints layouts (with_filler r ds ls) xs_after ys_after → WritesPoints cs r d after xs_after ys_after
    written {xs_after = xs_after} {ys_after = ys_after} e nx ny put =
        let q : List Point = write_points r cs d in
        let n : length q ≡ length cs = length_write r cs d in
        let bits : d ≡ bits_of_labels (map load cs) ls = sym w.labelled.bits_are ∙ by_place w.plan labels w.labels_length in
        let lists = lists_are q xs_after ys_after (nx ∙ w.xs_length ∙ sym n) (ny ∙ w.ys_length ∙ sym n) (λ k h.
        let i : k < length cs = rw n at h in
        let m = rw (layout k i, held k i) at (put.points k (omega (arith, nx, w.xs_length))) in
        mapped (get_or cs k Silent) (register_after r (take k cs)) (entry ls k) (point_at xs_after ys_after k) (w.plan.carries k i) (small k i) m
        ∙ sym (ap (λ (b : List Bool). get_or (write_points r cs b) k origin) bits ∙ write_at cs r ls (split_count w.plan labels w.labels_length) k i)) in
        record {
          xs_hold = lists.0;
          ys_hold = lists.1;
          register_is = e ∙ ap (λ (l : List ℕ). after_draws (2 * length l) r) w.plan.drawing_are ∙ register_places cs 0 r;
        }
