-- The points of a symbol from the labels by place, and the labels from the points.
use Rattle.std.specs.Prelude.{Option, None, Some, is_some, option_map}
use Prim.Native.Nat.{ℕ, zero, suc, ◌^◌, ◌≤◌, ◌<◌}
use mathlib.Core.Bool.{Bool, true, not, true≢false}
use mathlib.Core.List.{List, [], ◌∷◌, ◌++◌, map}
use mathlib.Core.Path.{◌≡◌, refl, sym, ap, ◌∙◌}
use native.Mathlib.Omega.{arith}
use lib.IntN.{ℤ, pos}
use lib.ListN.{length, take, get_or, length-map, get_or-map}
use lib.Seq.{take_at, drop_at, take-length, ext_get_or}
use Rattle.constellation.specs.DemapByLayout.{Demaps}
use Rattle.constellation.specs.Layouts.{layout_of, class_layout, ToneLayout, carries, nothing}
use Rattle.constellation.specs.MapByLayout.{Mappable, label, silent, MapsTo}
use Rattle.frame.specs.Labels.{bits_of_labels}
use Rattle.g9932.proofs.Search.{first_all, first_at}
use Rattle.g9932.proofs.Words.{num_lt, bits_num, length_bits}
use Rattle.g9932.specs.Bits.{bits, num, first}
use Rattle.g9932.specs.Filler.{drawn, register_after, after_draws, draws}
use Rattle.g9932.specs.Points.{point_of, label_of}
use Rattle.g9932.specs.Sizes.{entry, Point, origin, points, point_at}
use Rattle.g9932.specs.Symbol.{load, tone_point, write_points, in_constellation, is_filler, offgrid_test, tone_bits, gather_bits}
use Rattle.g9932.specs.declared.Class.{Class}
use Rattle.g9932.specs.declared.Class.TheVariants.{Data, Monitored, Silent}
use Rattle.g9932.proofs.PointLists.{point_at_lem}
use Rattle.mapper.specs.Reading.{LabelIs, OffAt, passes_filler}
use Rattle.plan.specs.Plan.{ClassBits, is_drawing}
use Rattle.passes.proofs.FillerPlaces.{filled}
use Rattle.passes.proofs.OneTone.{found_label, label_read, filler_read}

-- ---- writing

own_bits_lem : (n l : ℕ) → take n (bits n l) ≡ bits n l
own_bits_lem n l = ap (λ (m : ℕ). take m (bits n l)) (sym (length_bits n l)) ∙ take-length (bits n l)

-- the point of a tone, from a label of its own bits
tone_own : (r : ℕ) (c : Class) (l : ℕ) (rest : List Bool) → tone_point r c (bits (load c) l ++ rest) ≡ tone_point r c (bits (load c) l)
tone_own r (Data n) l rest = ap (point_of n) (take_at (bits n l) rest n (length_bits n l) ∙ sym (own_bits_lem n l))
tone_own r Monitored l rest = refl
tone_own r Silent l rest = refl

pub write_at : (cs : List Class) (r : ℕ) (ls : List ℕ) → length ls ≡ length cs → (k : ℕ) → k < length cs
    → get_or (write_points r cs (bits_of_labels (map load cs) ls)) k origin ≡ tone_point (register_after r (take k cs)) (get_or cs k Silent) (bits (load (get_or cs k Silent)) (entry ls k))
unfolding write_points register_after
write_at [] r ls n k h = absurd (omega arith)
write_at (c ∷ cs) r [] n k h = absurd (omega arith)
write_at (c ∷ cs) r (l ∷ ls) n zero h = tone_own r c l (bits_of_labels (map load cs) ls)
write_at (c ∷ cs) r (l ∷ ls) n (suc k) h =
    rw (drop_at (bits (load c) l) (bits_of_labels (map load cs) ls) (load c) (length_bits (load c) l)) (write_at cs (after_draws (draws c) r) ls (omega arith) k (omega arith))

-- a label that a tone's layout can map
pub mappable : (c : Class) (r l : ℕ) → ClassBits c → (1 ≤ load c → l < 2 ^ load c) → Mappable (class_layout c) (filled c r l)
mappable (Data n) r l h s = label n h.0 h.1 refl (s h.0)
mappable Monitored r l h s = label 2 (omega arith) (omega arith) refl (num_lt (drawn 2 r))
mappable Silent r l h s = silent refl (num_lt (drawn 2 r))

-- and its point
pub mapped : (c : Class) (r l : ℕ) (p : Point) → ClassBits c → (1 ≤ load c → l < 2 ^ load c) → MapsTo (class_layout c) (filled c r l) p → p ≡ tone_point r c (bits (load c) l)
mapped (Data n) r l p h s m = m.tone n h.0 h.1 refl (s h.0) ∙ ap (point_of n) (sym (own_bits_lem n l))
mapped Monitored r l p h s m = m.tone 2 (omega arith) (omega arith) refl (num_lt (drawn 2 r)) ∙ ap (point_of 2) (bits_num (drawn 2 r))
mapped Silent r l p h s m = m.silent refl

-- ---- reading

sought_on : (n : ℕ) (p : Point) (l : ℕ) → 1 ≤ n → n ≤ 15 → LabelIs (layout_of n) p l → Some l ≡ option_map num (label_of n p)
sought_on n p l h k d = d.sought n h k refl

-- the label of a point in a tone's constellation has the tone's bits
pub carried : (c : Class) (p : Point) (l : ℕ) → ClassBits c → LabelIs (class_layout c) p l → bits (load c) l ≡ tone_bits c p
unfolding bits
carried (Data n) p l h d = (label_read n p l (sought_on n p l h.0 h.1 d)).0
carried Monitored p l h d = refl
carried Silent p l h d = refl

pub label_small : (c : Class) (p : Point) (l : ℕ) → ClassBits c → LabelIs (class_layout c) p l → 1 ≤ load c → l < 2 ^ load c
label_small (Data n) p l h d m = (label_read n p l (sought_on n p l h.0 h.1 d)).1
label_small Monitored p l h d m = absurd (omega arith)
label_small Silent p l h d m = absurd (omega arith)

-- of a tone that draws, the label passes 14 exactly where the point does
pub tells_filler : (c : Class) (p : Point) (l : ℕ) → is_drawing c ≡ true → LabelIs (class_layout c) p l → (s : ℕ)
    → passes_filler (class_layout c) l (num (drawn 2 s)) ≡ is_filler c s p
tells_filler (Data n) p l e d s = absurd (true≢false (sym e))
tells_filler Monitored p l e d s =
    filler_read s (num (drawn 2 s)) p l (sought_on 2 p l (omega arith) (omega arith) d) refl
tells_filler Silent p l e d s = refl

-- a point is in a tone's constellation exactly where it has a label by the tone's layout
on_by : (c : Class) (p : Point) (o : Option ℕ) → ClassBits c → Demaps (class_layout c) p o → is_some o ≡ in_constellation c p
on_by (Data n) p o h d = found_label o (label_of n p) (d.sought n h.0 h.1 refl)
on_by Monitored p o h d = found_label o (label_of 2 p) (d.sought 2 (omega arith) (omega arith) refl)
on_by Silent p o h d = d.silent refl

pub tone_layout : (c : Class) → ClassBits c → ToneLayout (class_layout c)
tone_layout (Data n) h = carries n h.0 h.1 refl
tone_layout Monitored h = carries 2 (omega arith) (omega arith) refl
tone_layout Silent h = nothing refl

-- ---- all tones

pub class_at_lem : (cs : List Class) (k : ℕ) → k < length cs → entry (map class_layout cs) k ≡ class_layout (get_or cs k Silent)
class_at_lem [] k h = absurd (omega arith)
class_at_lem (c ∷ cs) zero h = refl
class_at_lem (c ∷ cs) (suc k) h = class_at_lem cs k (omega arith)

pub load_at : (cs : List Class) (k : ℕ) → k < length cs → entry (map load cs) k ≡ load (get_or cs k Silent)
load_at [] k h = absurd (omega arith)
load_at (c ∷ cs) zero h = refl
load_at (c ∷ cs) (suc k) h = load_at cs k (omega arith)

module _ (cs : List Class) (all : (k : ℕ) → k < length cs → ClassBits (get_or cs k Silent)) (xs ys : List ℤ) (nx : length xs ≡ length cs) (ny : length ys ≡ length xs) where
  abbrev q : List Point
  q = points xs ys

  abbrev test : ℕ → Bool
  test = offgrid_test cs q

  test_at : (k : ℕ) → k < length cs → (o : Option ℕ) → Demaps (entry (map class_layout cs) k) (point_at xs ys k) o → test k ≡ not (is_some o)
  test_at k h o d =
      ap (λ (p : Point). not (in_constellation (get_or cs k Silent) p)) (point_at_lem xs ys k (omega arith) ny)
      ∙ ap not (sym (on_by (get_or cs k Silent) (point_at xs ys k) o (all k h) (rw (class_at_lem cs k h) at d)))

  -- the first place that 13 refuses
  pub offgrid_first : (f : Option ℕ) → OffAt (map class_layout cs) xs ys f → f ≡ first test (length cs)
  offgrid_first (Some k) d =
      first_at test k (length cs) (first_all test k (λ i h. let w = d.2 i h in test_at i (omega (arith, d.0)) (Some w.0) w.1)) (test_at k (omega (arith, d.0)) None d.1) (omega (arith, d.0))
  offgrid_first None d = sym (first_all test (length cs) (λ i h. let w = d i (omega arith) in test_at i h (Some w.0) w.1))

  module _ (ls : List ℕ) (are : (k : ℕ) → k < length xs → LabelIs (entry (map class_layout cs) k) (point_at xs ys k) (entry ls k)) where
    pub label_is : (k : ℕ) → k < length cs → LabelIs (class_layout (get_or cs k Silent)) (get_or q k origin) (entry ls k)
    label_is k h = rw (point_at_lem xs ys k (omega arith) ny, ← (class_at_lem cs k h)) (are k (omega arith))

-- the bits of all labels are those gathered from the points
pub gathered : (cs : List Class) (ps : List Point) (ls : List ℕ) → length ps ≡ length cs → length ls ≡ length cs
    → ((k : ℕ) → k < length cs → bits (load (get_or cs k Silent)) (entry ls k) ≡ tone_bits (get_or cs k Silent) (get_or ps k origin)) → bits_of_labels (map load cs) ls ≡ gather_bits cs ps
unfolding gather_bits
gathered [] ps ls m n e = refl
gathered (c ∷ cs) [] ls m n e = absurd (omega arith)
gathered (c ∷ cs) (p ∷ ps) [] m n e = absurd (omega arith)
gathered (c ∷ cs) (p ∷ ps) (l ∷ ls) m n e =
    ap (λ (z : List Bool). bits (load c) l ++ z) (gathered cs ps ls (omega arith) (omega arith) (λ k h. e (suc k) (omega arith)))
    ∙ ap (λ (z : List Bool). z ++ gather_bits cs ps) (e 0 (omega arith))

-- two lists whose points are those of a list of points
pub lists_are : (ps : List Point) (xs ys : List ℤ) → length xs ≡ length ps → length ys ≡ length ps → ((k : ℕ) → k < length ps → point_at xs ys k ≡ get_or ps k origin)
    → (xs ≡ map (λ p. p.px) ps) × (ys ≡ map (λ p. p.py) ps)
lists_are ps xs ys nx ny e = (list (λ p. p.px) xs refl nx (λ k. refl), list (λ p. p.py) ys refl ny (λ k. refl))
  where
    list : (f : Point → ℤ) (l : List ℤ) → f origin ≡ pos 0 → length l ≡ length ps → ((k : ℕ) → get_or l k (pos 0) ≡ f (point_at xs ys k)) → l ≡ map f ps
    list f l z n g =
        ext_get_or (pos 0) l (map f ps) (n ∙ sym (length-map ps f))
        (λ k h. g k ∙ ap f (e k (omega arith)) ∙ sym (rw z at (get_or-map f ps k origin)))
