-- The layouts at the places of a plan's entries.
use Prim.Native.Nat.{ℕ, zero, suc, ◌+◌, ◌-◌, ◌*◌, ◌≤◌, ◌<◌}
use mathlib.Core.Bool.{Bool, true, false}
use mathlib.Core.List.{List, [], ◌∷◌, ◌++◌, map}
use mathlib.Core.Path.{◌≡◌, refl, sym, ap, subst, ◌∙◌}
use native.Mathlib.Omega.{arith}
use borrow.Author.Tests.{leb-true}
use lib.Dec.{leb}
use lib.ListN.{length, get_or, replicate, length-append, length-replicate, length-map, get_or-append}
use lib.Seq.{get_or-append-add}
use Rattle.constellation.specs.Layouts.{layout_of, class_layout, ToneLayout}
use Rattle.g9932.specs.Order.{cons_if, filter}
use Rattle.g9932.specs.Sizes.{entry}
use Rattle.g9932.specs.Symbol.{load}
use Rattle.g9932.specs.declared.Class.{Class}
use Rattle.g9932.specs.declared.Class.TheVariants.{Data, Monitored, Silent}
use Rattle.passes.proofs.LabelPlaces.{count_places}
use Rattle.passes.proofs.PlanLabels.{where_inside}
use Rattle.passes.proofs.SymbolPoints.{class_at_lem, tone_layout}
use Rattle.plan.specs.Classes.{PlanOf}
use Rattle.plan.specs.Plan.{places_where, every_second}
use Rattle.nearest.specs.Planned.{LaidOut}
use Rattle.nearest.proofs.PlanMeters.{both_append}

-- ---- tones with an entry of their own

-- a loaded tone's layout is that of its bits
loaded_layout : (c : Class) → 1 ≤ load c → class_layout c ≡ layout_of (load c)
loaded_layout (Data n) h = refl
loaded_layout Monitored h = absurd (omega arith)
loaded_layout Silent h = absurd (omega arith)

-- entry k is that of the tone at its place, counted from i
pub record OwnTone (least : ℕ) (own : List Class) (i e p : ℕ) : Type 0 where
  pub from : i ≤ p
  pub load_is : load (get_or own (p - i) Silent) ≡ e
  pub enough : least ≤ e

own_tone : (least : ℕ) (own : List Class) (i k : ℕ) → k < length (filter (leb least) (map load own))
    → OwnTone least own i (entry (filter (leb least) (map load own)) k) (entry (places_where (leb least) i (map load own)) k)
own_tone least [] i k h = absurd (omega arith)
own_tone least (c ∷ own) i k h = go (leb least (load c)) refl k h (λ (j : ℕ) l. own_tone least own (suc i) j l)
  where
    later : {e p : ℕ} → OwnTone least own (suc i) e p → OwnTone least (c ∷ own) i e p
    later {e} {p} o =
        let s : p - i ≡ suc (p - suc i) = omega (arith, o.from) in
        record { from = omega (arith, o.from); load_is = rw s o.load_is; enough = o.enough }

    Rest : Type 0
    Rest =
        (j : ℕ) → j < length (filter (leb least) (map load own))
        → OwnTone least own (suc i) (entry (filter (leb least) (map load own)) j) (entry (places_where (leb least) (suc i) (map load own)) j)

    go : (b : Bool) → leb least (load c) ≡ b → (k : ℕ) → k < length (cons_if b (load c) (filter (leb least) (map load own))) → Rest
        → OwnTone least (c ∷ own) i (entry (cons_if b (load c) (filter (leb least) (map load own))) k) (entry (cons_if b i (places_where (leb least) (suc i) (map load own))) k)
    go true e zero h rest = let z : i - i ≡ 0 = omega arith in record { from = omega arith; load_is = rw z refl; enough = leb-true least (load c) e }
    go true e (suc k) h rest = later (rest k (omega arith))
    go false e k h rest = later (rest k h)

-- ---- all places

replicate_at : (n k : ℕ) → k < n → get_or (replicate n (Data 1)) k Silent ≡ Data 1
replicate_at zero k h = absurd (omega arith)
replicate_at (suc n) zero h = refl
replicate_at (suc n) (suc k) h = replicate_at n k (omega arith)

module _ {cs : List Class} {from : ℕ} {es ps ds layouts : List ℕ} (p : PlanOf cs from es ps ds layouts) where
  pub layouts_length_lem : length layouts ≡ length cs
  layouts_length_lem = ap length p.layouts_are ∙ length-map cs class_layout

  layout_at : (i : ℕ) → i < length cs → entry layouts i ≡ class_layout (get_or cs i Silent)
  layout_at i h = ap (λ (l : List ℕ). entry l i) p.layouts_are ∙ class_at_lem cs i h

  pub tone_layouts : (i : ℕ) → i < length cs → ToneLayout (entry layouts i)
  tone_layouts i h = rw (layout_at i h) (tone_layout (get_or cs i Silent) (p.carries i h))

  abbrev h : ℕ
  h = p.shared_count

  all_count : length cs ≡ from + 2 * h
  all_count = ap length p.classes ∙ length-append p.own (replicate (2 * h) (Data 1)) ∙ omega (arith, p.from_is, length-replicate (2 * h) (Data 1))

  own_at : (i : ℕ) → i < from → get_or cs i Silent ≡ get_or p.own i Silent
  own_at i l = ap (λ (z : List Class). get_or z i Silent) p.classes ∙ get_or-append p.own (replicate (2 * h) (Data 1)) Silent i (omega (arith, p.from_is))

  one_at : (i : ℕ) → from ≤ i → i < from + 2 * h → entry layouts i ≡ layout_of 1
  one_at i l m =
      let s : length p.own + (i - from) ≡ i = omega (arith, p.from_is) in
      let e : get_or cs i Silent ≡ Data 1 =
      ap (λ (z : List Class). get_or z i Silent) p.classes ∙ ap (λ (z : ℕ). get_or (p.own ++ replicate (2 * h) (Data 1)) z Silent) (sym s)
      ∙ get_or-append-add p.own (replicate (2 * h) (Data 1)) (i - from) Silent ∙ replicate_at (2 * h) (i - from) (omega arith) in
      layout_at i (omega (arith, all_count)) ∙ ap class_layout e

  -- what an entry has at its place
  Has : ℕ → ℕ → Type 0
  Has e i = (i < from → entry layouts i ≡ layout_of e) × (from ≤ i → (entry layouts i ≡ layout_of 1) × (entry layouts (suc i) ≡ layout_of 1))

  own_has : (k : ℕ) → k < length (filter (leb p.least) (map load p.own)) → Has (entry (filter (leb p.least) (map load p.own)) k) (entry (places_where (leb p.least) 0 (map load p.own)) k)
  unfolding Has
  own_has k l =
      let o = own_tone p.least p.own 0 k l in
      let i : ℕ = entry (places_where (leb p.least) 0 (map load p.own)) k in
      let w = where_inside (leb p.least) 0 (map load p.own) k (omega (arith, count_places p.least (map load p.own) 0)) in
      let b : i < from = omega (arith, w.1, length-map p.own load, p.from_is) in
      let z : i - 0 ≡ i = omega arith in
      let d : load (get_or p.own i Silent) ≡ entry (filter (leb p.least) (map load p.own)) k = rw z at o.load_is in (
        λ _.
            layout_at i (omega (arith, all_count)) ∙ ap class_layout (own_at i b)
            ∙ loaded_layout (get_or p.own i Silent) (omega (arith, d, o.enough, p.least_is)) ∙ ap layout_of d,
        λ m. absurd (omega arith),
      )

  shared_has : (s i k : ℕ) → from ≤ i → i + 2 * s ≤ from + 2 * h → k < length {A = ℕ} (replicate s 2) → Has (entry (replicate s 2) k) (entry (every_second i s) k)
  unfolding Has
  shared_has zero i k a b l = absurd (omega arith)
  shared_has (suc s) i zero a b l = ((λ m. absurd (omega arith)), λ _. (one_at i a (omega arith), one_at (suc i) (omega arith) (omega arith)))
  shared_has (suc s) i (suc k) a b l = shared_has s (suc (suc i)) k (omega arith) (omega arith) (omega arith)

  has : (k : ℕ) → k < length es → Has (entry es k) (entry ps k)
  has k l =
      let r =
      both_append Has (filter (leb p.least) (map load p.own)) (places_where (leb p.least) 0 (map load p.own)) (replicate h 2) (every_second from h) (count_places p.least (map load p.own) 0)
      own_has (λ j m. shared_has h from j (omega arith) (omega arith) m) k (subst (λ (z : List ℕ). k < length z) p.entries_are l) in
      subst (λ (z : List ℕ). Has (entry z k) (entry ps k)) (sym p.entries_are)
      (subst (λ (z : List ℕ). Has (entry (filter (leb p.least) (map load p.own) ++ replicate h 2) k) (entry z k)) (sym p.places_are) r)

  pub laid_out : LaidOut from es ps layouts
  unfolding Has
  laid_out = record { own = λ k l. (has k l).0; first = λ k l m. ((has k l).1 m).0; second = λ k l m. ((has k l).1 m).1 }
