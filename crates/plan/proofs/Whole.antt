-- The lists as filed are those of the plan: t' has the tones that do not share, in t order, then those that do.
use Prim.Native.Nat.{ℕ, zero, suc, ◌+◌, ◌*◌, ◌/◌, ◌%◌, ◌≤◌}
use mathlib.Core.Bool.{Bool, true, false, not}
use mathlib.Core.List.{List, [], ◌∷◌, ◌++◌, map, map-append, append-nil}
use mathlib.Core.Path.{◌≡◌, refl, sym, ap, ap₂, ◌∙◌}
use native.Mathlib.Omega.{arith}
use borrow.Author.Tests.{ltb-true, le-leb}
use lib.Dec.{ltb, leb}
use lib.ListN.{length, take, replicate, length-append, length-replicate, length-map}
use Rattle.constellation.specs.Layouts.{layout_of, class_layout}
use Rattle.g9932.proofs.Counts.{filter_append, filter_small, two_big, two_loaded, two_not_one, map_replicate}
use Rattle.g9932.proofs.Reordering.{length_order}
use Rattle.g9932.proofs.Sent.{single_classes}
use Rattle.g9932.specs.Order.{cons_if, filter, is_one, one_bit, others, singles, ones, reordered_tones}
use Rattle.g9932.specs.Sizes.{tables, entry, tone_of, class_by}
use Rattle.g9932.specs.Symbol.{load, class_at, classes_by, size_of}
use Rattle.g9932.specs.declared.Class.{Class}
use Rattle.g9932.specs.declared.Class.TheVariants.{Data, Monitored, Silent}
use Rattle.g9932.specs.declared.Mode.{Mode}
use Rattle.g9932.specs.declared.Mode.TheVariants.{Uncoded, Coded}
use Rattle.plan.specs.Plan.{least_own, is_drawing, places_where, every_second, shared_from, PlanIs, is_placed, Filing, Shares}
use Rattle.tables.specs.Modes.{sharing}
use Rattle.g9932.specs.declared.Place.{Place}
use Rattle.plan.specs.declared.Plan.{Plan}
use Rattle.plan.specs.declared.Room.{Room}
use Rattle.plan.specs.declared.filing.Cursors.{Cursors}
use Rattle.plan.proofs.Steps.{places_append}

-- uncoded, no tone shares
all_placed : (b g : ℕ) → is_placed 1 (tone_of b g).class ≡ true
all_placed b g = go (ltb 0 b) (ltb 0 g) refl
  where
    go : (p q : Bool) → ltb 0 b ≡ p → is_placed 1 (class_by p (Data b) (class_by q Monitored Silent)) ≡ true
    go true q e = le-leb 1 b (ltb-true 0 b e)
    go false true e = refl
    go false false e = refl

placed_uncoded : (b g t : List ℕ) → filter (is_placed 1) (classes_by b g t) ≡ classes_by b g t
placed_uncoded b g [] = refl
placed_uncoded b g (k ∷ t) = rw (all_placed (entry b k) (entry g k)) (ap (λ (l : List Class). class_at b g k ∷ l) (placed_uncoded b g t))

-- coded, the tones of 1 bit do
pub placed_other : (b g : ℕ) → is_placed 2 (tone_of b g).class ≡ not (is_one b)
placed_other zero g = go (ltb 0 g)
  where
    go : (q : Bool) → is_placed 2 (class_by q Monitored Silent) ≡ true
    go true = refl
    go false = refl
placed_other (suc zero) g = refl
placed_other (suc (suc n)) g = rw (two_loaded n, two_not_one n) (two_big n)

placed_coded : (b g t : List ℕ) → filter (is_placed 2) (classes_by b g t) ≡ classes_by b g (others b t)
placed_coded b g [] = refl
placed_coded b g (k ∷ t) = rw (placed_other (entry b k) (entry g k)) (go (not (one_bit b k)) (placed_coded b g t))
  where
    go : (p : Bool) → filter (is_placed 2) (classes_by b g t) ≡ classes_by b g (others b t)
        → cons_if p (class_at b g k) (filter (is_placed 2) (classes_by b g t))
        ≡ classes_by b g (cons_if p k (others b t))
    go true e = ap (λ (l : List Class). class_at b g k ∷ l) e
    go false e = e

-- the classes in t' order, in either mode
pub classes_plan : (m : Mode) (b g t : List ℕ) → classes_by b g (reordered_tones m b t) ≡ filter (is_placed (least_own m)) (classes_by b g t) ++ replicate (sharing m b t) (Data 1)
unfolding reordered_tones
classes_plan Uncoded b g t = sym (append-nil (filter (is_placed 1) (classes_by b g t)) ∙ placed_uncoded b g t)
classes_plan Coded b g t =
    map-append (class_at b g) (others b t) (singles b t)
    ∙ ap₂ (λ (k l : List Class). k ++ l) (sym (placed_coded b g t)) (single_classes b g t)

-- ---- what the tones that share add: their layouts alone

places_tail : {A : Type 0} (p : A → Bool) (a : A) → p a ≡ false → (n i : ℕ) → places_where p i (replicate n a) ≡ []
places_tail p a e zero i = refl
places_tail p a e (suc n) i = rw e (places_tail p a e n (suc i))

-- a front is no longer than it was asked to be
length_take_most : {A : Type 0} (n : ℕ) (l : List A) → length (take n l) ≤ n
length_take_most zero l = omega arith
length_take_most (suc n) [] = omega arith
length_take_most (suc n) (a ∷ l) = let e = length_take_most n l in omega arith

module _ (m : Mode) (b g t : List ℕ) where
  abbrev cs : List Class
  cs = filter (is_placed (least_own m)) (classes_by b g t)

  abbrev ends : List Class
  ends = replicate (sharing m b t) (Data 1)

  pub placed_count : length cs + sharing m b t ≡ length t
  placed_count =
      let e = ap length (classes_plan m b g t) in
      omega (arith, e, length-append cs ends, length-replicate (sharing m b t) (Data 1), length-map (reordered_tones m b t) (class_at b g), length_order b t m)

  entries_tail : filter (leb (least_own m)) (map load ends) ≡ []
  entries_tail = by m
    where
      by : (m : Mode) → filter (leb (least_own m)) (map load (replicate (sharing m b t) (Data 1))) ≡ []
      by Uncoded = refl
      by Coded = ap (filter (leb 2)) (map_replicate load (ones b t) (Data 1)) ∙ filter_small (ones b t)

  entry_places_tail : (i : ℕ) → places_where (leb (least_own m)) i (map load ends) ≡ []
  entry_places_tail i = by m
    where
      by : (m : Mode) → places_where (leb (least_own m)) i (map load (replicate (sharing m b t) (Data 1))) ≡ []
      by Uncoded = refl
      by Coded = ap (places_where (leb 2) i) (map_replicate load (ones b t) (Data 1)) ∙ places_tail (leb 2) 1 refl (ones b t) i

  plan_layouts : map class_layout (classes_by b g (reordered_tones m b t)) ≡ map class_layout cs ++ replicate (sharing m b t) (layout_of 1)
  plan_layouts =
      ap (map class_layout) (classes_plan m b g t) ∙ map-append class_layout cs ends
      ∙ ap (λ (l : List ℕ). map class_layout cs ++ l) (map_replicate class_layout (sharing m b t) (Data 1))

  plan_loads : map load (classes_by b g (reordered_tones m b t)) ≡ map load cs ++ map load ends
  plan_loads = ap (map load) (classes_plan m b g t) ∙ map-append load cs ends

  pub plan_entries : filter (leb (least_own m)) (map load (classes_by b g (reordered_tones m b t))) ≡ filter (leb (least_own m)) (map load cs)
  plan_entries =
      ap (filter (leb (least_own m))) plan_loads ∙ filter_append (leb (least_own m)) (map load cs) (map load ends)
      ∙ rw entries_tail (append-nil (filter (leb (least_own m)) (map load cs)))

  pub plan_places : places_where (leb (least_own m)) 0 (map load (classes_by b g (reordered_tones m b t))) ≡ places_where (leb (least_own m)) 0 (map load cs)
  plan_places =
      ap (places_where (leb (least_own m)) 0) plan_loads ∙ places_append (leb (least_own m)) 0 (map load cs) (map load ends)
      ∙ rw (entry_places_tail (0 + length (map load cs))) (append-nil (places_where (leb (least_own m)) 0 (map load cs)))

  plan_drawing : places_where is_drawing 0 (classes_by b g (reordered_tones m b t)) ≡ places_where is_drawing 0 cs
  plan_drawing =
      ap (places_where is_drawing 0) (classes_plan m b g t) ∙ places_append is_drawing 0 cs ends
      ∙ rw (places_tail is_drawing (Data 1) refl (sharing m b t) (0 + length cs)) (append-nil (places_where is_drawing 0 cs))

  -- the lists as filed, with the shared entries behind them
  pub plan_is : (sharers : ℕ) (at : Cursors) (filed shared : Room) (p : Plan)
      → sharers ≡ sharing m b t → sharers % 2 ≡ 0 → Filing (least_own m) cs at filed → Shares (layout_of 1) at.place.0 (sharers / 2) at.entry filed shared
      → p.mode ≡ m → p.size ≡ size_of (tables m b g t) → p.shared_from ≡ at.place → p.layouts.now ≡ take (length t) shared.layouts → p.entries.bits.now ≡ take (at.entry + sharers / 2) shared.entries
      → p.entries.places.now ≡ take (at.entry + sharers / 2) shared.places → p.drawing.now ≡ take at.drawing shared.drawing
      → PlanIs (tables m b g t) p
  plan_is sharers at filed shared p o even f s mode_is size_is at_is layouts_is entries_is places_is drawing_is =
      let n = placed_count in
      let two : 2 * (sharers / 2) ≡ sharing m b t = omega arith in
      let all : at.place.0 + 2 * (sharers / 2) ≡ length t = omega (arith, f.place_is) in
      let from : at.place.0 ≡ shared_from (tables m b g t) = omega (arith, f.place_is) in
      record {
        mode_is = mode_is;
        size_is = size_is;
        layouts_are = layouts_is ∙ ap (λ (n : ℕ). take n shared.layouts) (sym all) ∙ s.layouts_are ∙ ap₂ (λ (k l : List ℕ). k ++ l) f.layouts_are (ap (λ (n : ℕ). replicate n (layout_of 1)) two) ∙ sym plan_layouts;
        shared_is = ap (λ (p : Place). p.0) at_is ∙ from;
        entries_are = entries_is ∙ s.entries_are ∙ ap₂ (λ (k l : List ℕ). k ++ l) (f.entries_are ∙ sym plan_entries) (ap (λ (n : ℕ). replicate (n / 2) 2) o);
        places_are = places_is ∙ s.places_are ∙ ap₂ (λ (k l : List ℕ). k ++ l) (f.places_are ∙ sym plan_places) (ap₂ (λ (p n : ℕ). every_second p (n / 2)) from o);
        drawing_are = drawing_is ∙ ap (take at.drawing) s.drawing_is ∙ f.drawing_are ∙ sym plan_drawing;
        entries_most = rw entries_is (omega (arith, f.entry_most, f.place_is, length_take_most (at.entry + sharers / 2) shared.entries));
      }

pub least_own_lem : (m : Mode) → 1 ≤ least_own m
least_own_lem Uncoded = omega arith
least_own_lem Coded = omega arith
