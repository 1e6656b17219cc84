-- The lists of a plan, as those of the classes of a symbol's tones.
use Prim.Native.Nat.{ℕ, zero, suc, ◌*◌, ◌/◌, ◌%◌, ◌≤◌, ◌<◌}
use mathlib.Core.Bool.{Bool, true, false}
use mathlib.Core.List.{List, [], ◌∷◌, ◌++◌, map}
use mathlib.Core.Path.{◌≡◌, refl, sym, ap, ap₂, ◌∙◌}
use native.Mathlib.Omega.{arith}
use borrow.Author.Tests.{leb-true}
use lib.ListN.{length, get_or, replicate}
use Rattle.g9932.specs.Order.{cons_if, filter, reordered_tones}
use Rattle.g9932.specs.Sizes.{Tables, entry}
use Rattle.g9932.specs.Symbol.{load, classes_by, classes_of}
use Rattle.g9932.specs.declared.Class.{Class}
use Rattle.g9932.specs.declared.Class.TheVariants.{Data, Monitored, Silent}
use Rattle.plan.specs.Classes.{PlanOf}
use Rattle.plan.specs.Plan.{ClassBits, least_own, every_second, PlanIs, is_placed}
use Rattle.tables.specs.Modes.{sharing}
use Rattle.plan.specs.declared.Plan.{Plan}
use Rattle.plan.proofs.Steps.{class_bits}
use Rattle.plan.proofs.Whole.{least_own_lem, classes_plan, placed_count, plan_entries, plan_places}

-- a tone that does not share has no bits below the least
placed_load : (least : ℕ) (c : Class) → is_placed least c ≡ true → load c < least → load c ≡ 0
placed_load least (Data b) e h = absurd (omega (arith, h, leb-true least b e))
placed_load least Monitored e h = refl
placed_load least Silent e h = refl

placed_loads : (least : ℕ) (cs : List Class) (k : ℕ) → entry (map load (filter (is_placed least) cs)) k < least → entry (map load (filter (is_placed least) cs)) k ≡ 0
placed_loads least [] k h = refl
placed_loads least (c ∷ cs) k h = go (is_placed least c) refl k h (placed_loads least cs)
  where
    go : (b : Bool) → is_placed least c ≡ b → (k : ℕ) → entry (map load (cons_if b c (filter (is_placed least) cs))) k < least
        → ((k : ℕ) → entry (map load (filter (is_placed least) cs)) k < least → entry (map load (filter (is_placed least) cs)) k ≡ 0)
        → entry (map load (cons_if b c (filter (is_placed least) cs))) k ≡ 0
    go true e zero h rest = placed_load least c e h
    go true e (suc k) h rest = rest k h
    go false e k h rest = rest k h

classes_bits : (b g t : List ℕ) → ((k : ℕ) → entry b k ≤ 15) → (k : ℕ) → k < length (classes_by b g t) → ClassBits (get_or (classes_by b g t) k Silent)
classes_bits b g [] most k h = absurd (omega arith)
classes_bits b g (a ∷ t) most zero h = class_bits (entry b a) (entry g a) (most a)
classes_bits b g (a ∷ t) most (suc k) h = classes_bits b g t most k (omega arith)

pub plan_of : (T : Tables) (p : Plan) → ((k : ℕ) → entry T.bits k ≤ 15) → sharing T.mode T.bits T.tones % 2 ≡ 0 → PlanIs T p
    → PlanOf (classes_of T) p.shared_from.0 p.entries.bits.now p.entries.places.now p.drawing.now p.layouts.now
plan_of T p most even is =
    let m = T.mode in
    let b = T.bits in
    let g = T.gains in
    let t = T.tones in
    let n = placed_count m b g t in
    let two : 2 * (sharing m b t / 2) ≡ sharing m b t = omega arith in
    record {
      own = filter (is_placed (least_own m)) (classes_by b g t);
      shared_count = sharing m b t / 2;
      least = least_own m;
      classes = classes_plan m b g t ∙ ap (λ (k : ℕ). filter (is_placed (least_own m)) (classes_by b g t) ++ replicate k (Data 1)) (sym two);
      from_is = is.shared_is ∙ omega arith;
      least_is = least_own_lem m;
      own_bits = placed_loads (least_own m) (classes_by b g t);
      carries = classes_bits b g (reordered_tones m b t) most;
      entries_are = is.entries_are ∙ ap (λ (l : List ℕ). l ++ replicate (sharing m b t / 2) 2) (plan_entries m b g t);
      places_are = is.places_are ∙ ap₂ (λ (l : List ℕ) (k : ℕ). l ++ every_second k (sharing m b t / 2)) (plan_places m b g t) (sym is.shared_is);
      drawing_are = is.drawing_are;
      layouts_are = is.layouts_are;
    }
