-- Every label's place is in the rectangles, and every place there is a label's.
use Rattle.std.specs.Prelude.{None}
use Prim.Native.Nat.{ℕ, zero, suc, ◌+◌, ◌-◌, ◌*◌, ◌/◌, ◌%◌, ◌≤◌}
use mathlib.Core.Bool.{Bool, true, false, not, ◌&&◌, ◌||◌, and-eq-true_iff, false≢true}
use mathlib.Core.List.{List, [], ◌∷◌}
use mathlib.Core.Logic.{◌⊎◌, inl, inr, ⊎_elim}
use mathlib.Core.Path.{◌≡◌, refl, sym, ap, subst, ◌∙◌}
use native.Mathlib.Omega.{arith}
use borrow.Author.Tests.{eqb-true, lt-ltb, le-leb}
use lib.Dec.{ltb, leb, eqb}
use lib.ListN.{length}
use Rattle.g9932.specs.Bits.{weight, num, odd, bits, first}
use Rattle.g9932.proofs.Words.{weight_odd, weight_le}
use Rattle.g9932.specs.Trellis.{same}
use Rattle.g9932.proofs.Search.{first_no}
use Rattle.g9932.proofs.Identities.{bits_agree}
use Rattle.g9932.proofs.Coordinates.{three, five, back}
use Rattle.cosets.specs.Grid.{Within, inner, outer}
use Rattle.cosets.proofs.Regions.{Cross, cross_two, cross_half, cross_test, within_test, cross_by, within_by, inner_two, outer_two, inner_even, ux, uy, pushed}

-- ---- labels to places

two_inside : (a b : Bool) → Cross 1 1 (ux (a ∷ b ∷ [])) (uy (a ∷ b ∷ []))
unfolding num weight
two_inside a b = cross_by 1 1 (ux (a ∷ b ∷ [])) (uy (a ∷ b ∷ [])) (bits_agree 2 (λ a b. cross_test 1 1 (ux (a ∷ b ∷ [])) (uy (a ∷ b ∷ []))) (λ a b. true) refl a b)

five_inside : (a b c d e : Bool) → Cross 2 3 (ux (a ∷ b ∷ c ∷ d ∷ e ∷ [])) (uy (a ∷ b ∷ c ∷ d ∷ e ∷ []))
unfolding num weight odd bits five
five_inside a b c d e =
    cross_by 2 3 (ux (a ∷ b ∷ c ∷ d ∷ e ∷ [])) (uy (a ∷ b ∷ c ∷ d ∷ e ∷ []))
    (bits_agree 5 (λ a b c d e. cross_test 2 3 (ux (a ∷ b ∷ c ∷ d ∷ e ∷ [])) (uy (a ∷ b ∷ c ∷ d ∷ e ∷ []))) (λ a b c d e. true) refl a b c d e)

cross_sizes : (n u w : ℕ) → 2 ≤ n → (n % 2 ≡ 1 → inner n % 2 ≡ 0) → Cross (2 * inner n) (2 * outer n) u w → Cross (inner (suc (suc n))) (outer (suc (suc n))) u w
cross_sizes n u w h g k =
    subst (λ (z : ℕ). Cross z (outer (suc (suc n))) u w) (sym (inner_two n h)) (subst (λ (z : ℕ). Cross (2 * inner n) z u w) (sym (outer_two n h g)) k)

sizes_cross : (n u w : ℕ) → 2 ≤ n → (n % 2 ≡ 1 → inner n % 2 ≡ 0) → Cross (inner (suc (suc n))) (outer (suc (suc n))) u w → Cross (2 * inner n) (2 * outer n) u w
sizes_cross n u w h g k =
    subst (λ (z : ℕ). Cross z (2 * outer n) u w) (inner_two n h) (subst (λ (z : ℕ). Cross (inner (suc (suc n))) z u w) (outer_two n h g) k)

push_inside : (a b : Bool) (v : List Bool) → (length v ≡ 2) ⊎ (4 ≤ length v) → length v ≤ 15 → Cross (inner (length v)) (outer (length v)) (ux v) (uy v)
    → Cross (inner (suc (suc (length v)))) (outer (suc (suc (length v)))) (ux (a ∷ b ∷ v)) (uy (a ∷ b ∷ v))
push_inside a b v h s k =
    let n = length v in
    let p = pushed a b v h s in
    cross_sizes n (ux (a ∷ b ∷ v)) (uy (a ∷ b ∷ v)) (⊎_elim (λ e. omega arith) (λ e. omega arith) h)
    (λ o. ⊎_elim (λ e. absurd (omega arith)) (λ e. inner_even n e) h)
    (cross_two (inner n) (outer n) (ux v) (uy v) (ux (a ∷ b ∷ v)) (uy (a ∷ b ∷ v)) (weight b) (weight a) (weight_le b) (weight_le a) p.x p.y k)

pub inside : (v : List Bool) → 2 ≤ length v → length v ≤ 15 → (length v ≡ 3 → ⊥) → Cross (inner (length v)) (outer (length v)) (ux v) (uy v)
inside [] h s t = absurd (omega arith)
inside (a ∷ []) h s t = absurd (omega arith)
inside (a ∷ b ∷ []) h s t = two_inside a b
inside (a ∷ b ∷ c ∷ []) h s t = absurd (t refl)
inside (a ∷ b ∷ c ∷ d ∷ []) h s t = push_inside a b (c ∷ d ∷ []) (inl refl) (omega arith) (two_inside c d)
inside (a ∷ b ∷ c ∷ d ∷ e ∷ []) h s t = five_inside a b c d e
inside (a ∷ b ∷ c ∷ d ∷ e ∷ f ∷ l) h s t =
    push_inside a b (c ∷ d ∷ e ∷ f ∷ l) (inr (omega arith)) (omega arith) (inside (c ∷ d ∷ e ∷ f ∷ l) (omega arith) (omega arith) (λ z. omega arith))

-- ---- places to labels

pub record LabelAt (b u w : ℕ) : Type 0 where
  pub label : List Bool
  pub size : length label ≡ b
  pub x : ux label ≡ u
  pub y : uy label ≡ w

-- a test of all places from 509 to 514
abbrev grid : ℕ → ℕ
grid k = 509 + k

abbrev try : ℕ → ℕ → ℕ → List Bool
try b u w = back b (bits 3 u) (bits 3 w)

abbrev finds : ℕ → ℕ → ℕ → Bool
finds b u w = eqb (length (try b u w)) b && (eqb (ux (try b u w)) u && eqb (uy (try b u w)) w)

label_by : (b u w : ℕ) → finds b u w ≡ true → LabelAt b u w
label_by b u w e =
    let h = (and-eq-true_iff (eqb (length (try b u w)) b) (eqb (ux (try b u w)) u && eqb (uy (try b u w)) w)).0 e in
    let k = (and-eq-true_iff (eqb (ux (try b u w)) u) (eqb (uy (try b u w)) w)).0 h.1 in
    record { label = try b u w; size = eqb-true (length (try b u w)) b h.0; x = eqb-true (ux (try b u w)) u k.0; y = eqb-true (uy (try b u w)) w k.1 }

-- the places of a region all have labels
abbrev missed : (ℕ → ℕ → Bool) → ℕ → ℕ → Bool
missed region b k = region (grid (k / 6)) (grid (k % 6)) && not (finds b (grid (k / 6)) (grid (k % 6)))

by_missed : (p q : Bool) → p && not q ≡ false → p ≡ true → q ≡ true
by_missed true true e h = refl
by_missed true false e h = sym e
by_missed false true e h = refl
by_missed false false e h = h

found : (region : ℕ → ℕ → Bool) (b u w : ℕ) → first (missed region b) 36 ≡ None → 509 ≤ u → u ≤ 514 → 509 ≤ w → w ≤ 514
    → region u w ≡ true → LabelAt b u w
found region b u w e hu gu hw gw r =
    let k : ℕ = 6 * (u - 509) + (w - 509) in
    let eu : grid (k / 6) ≡ u = omega arith in
    let ew : grid (k % 6) ≡ w = omega arith in
    let m : missed region b k ≡ false = first_no (missed region b) 36 e k (omega arith) in
    let n : region u w && not (finds b u w) ≡ false =
    subst (λ (y : ℕ). region u y && not (finds b u y) ≡ false) ew (subst (λ (x : ℕ). region x (grid (k % 6)) && not (finds b x (grid (k % 6))) ≡ false) eu m) in
    label_by b u w (by_missed (region u w) (finds b u w) n r)

five_all : first (missed (cross_test 2 3) 5) 36 ≡ None
unfolding first num weight odd bits five
five_all = refl

test_within : (a u : ℕ) → Within a u → within_test a u ≡ true
test_within a u w = (and-eq-true_iff (leb 512 (u + a)) (ltb u (512 + a))).1 (le-leb 512 (u + a) w.left, lt-ltb u (512 + a) w.right)

or_left : (p q : Bool) → p ≡ true → p || q ≡ true
or_left true q e = refl
or_left false q e = absurd (false≢true e)

or_right : (p q : Bool) → q ≡ true → p || q ≡ true
or_right true q e = refl
or_right false q e = e

test_cross : (a c u w : ℕ) → Cross a c u w → cross_test a c u w ≡ true
test_cross a c u w =
    ⊎_elim
    (λ k. or_left (within_test a u && within_test c w) (within_test c u && within_test a w) ((and-eq-true_iff (within_test a u) (within_test c w)).1 (test_within a u k.0, test_within c w k.1)))
    (λ k. or_right (within_test a u && within_test c w) (within_test c u && within_test a w) ((and-eq-true_iff (within_test c u) (within_test a w)).1 (test_within c u k.0, test_within a w k.1)))

five_label : (u w : ℕ) → Cross 2 3 u w → LabelAt 5 u w
five_label u w k =
    let b : (509 ≤ u) × (u ≤ 514) × (509 ≤ w) × (w ≤ 514) = ⊎_elim (λ h. near h.0 h.1) (λ h. near' h.0 h.1) k in
    found (cross_test 2 3) 5 u w five_all b.0 b.1 b.2 b.3 (test_cross 2 3 u w k)
  where
    near : Within 2 u → Within 3 w → (509 ≤ u) × (u ≤ 514) × (509 ≤ w) × (w ≤ 514)
    near p q = (omega (arith, p.left), omega (arith, p.right), omega (arith, q.left), omega (arith, q.right))

    near' : Within 3 u → Within 2 w → (509 ≤ u) × (u ≤ 514) × (509 ≤ w) × (w ≤ 514)
    near' p q = (omega (arith, p.left), omega (arith, p.right), omega (arith, q.left), omega (arith, q.right))

two_all : first (missed (cross_test 1 1) 2) 36 ≡ None
unfolding first num weight odd bits
two_all = refl

two_label : (u w : ℕ) → Cross 1 1 u w → LabelAt 2 u w
two_label u w k =
    let b : (509 ≤ u) × (u ≤ 514) × (509 ≤ w) × (w ≤ 514) = ⊎_elim (λ h. near h.0 h.1) (λ h. near h.0 h.1) k in
    found (cross_test 1 1) 2 u w two_all b.0 b.1 b.2 b.3 (test_cross 1 1 u w k)
  where
    near : Within 1 u → Within 1 w → (509 ≤ u) × (u ≤ 514) × (509 ≤ w) × (w ≤ 514)
    near p q = (omega (arith, p.left), omega (arith, p.right), omega (arith, q.left), omega (arith, q.right))

push_label : (n u w : ℕ) → (n ≡ 2) ⊎ (4 ≤ n) → n ≤ 15 → LabelAt n ((u + 512) / 2) ((w + 512) / 2) → LabelAt (suc (suc n)) u w
push_label n u w h s l =
    let v = l.label in
    let p = pushed (odd w) (odd u) v (⊎_elim (λ e. inl (l.size ∙ e)) (λ e. inr (rw l.size e)) h) (rw l.size s) in
    record {
      label = odd w ∷ odd u ∷ v;
      size = ap (λ (k : ℕ). suc (suc k)) l.size;
      x = omega (arith, p.x, l.x, weight_odd u);
      y = omega (arith, p.y, l.y, weight_odd w);
    }

pub labelled : (b u w : ℕ) → 2 ≤ b → b ≤ 15 → (b ≡ 3 → ⊥) → Cross (inner b) (outer b) u w → LabelAt b u w
labelled zero u w h s t k = absurd (omega arith)
labelled (suc zero) u w h s t k = absurd (omega arith)
labelled (suc (suc zero)) u w h s t k = two_label u w k
labelled (suc (suc (suc zero))) u w h s t k = absurd (t refl)
labelled (suc (suc (suc (suc zero)))) u w h s t k =
    push_label 2 u w (inl refl) (omega arith) (two_label ((u + 512) / 2) ((w + 512) / 2) (cross_half 1 1 u w k))
labelled (suc (suc (suc (suc (suc zero))))) u w h s t k = five_label u w k
labelled (suc (suc (suc (suc (suc (suc n)))))) u w h s t k =
    let m : ℕ = suc (suc (suc (suc n))) in
    push_label m u w (inr (omega arith)) (omega arith)
    (labelled (suc (suc (suc (suc n)))) ((u + 512) / 2) ((w + 512) / 2) (omega arith) (omega arith) (λ z. omega arith)
    (cross_half (inner m) (outer m) u w (sizes_cross m u w (omega arith) (λ o. inner_even m (omega arith)) k)))

-- ---- three bits: one of the two rectangles, by the lowest bits

abbrev pub Three : Bool → ℕ → ℕ → Type 0
Three true u w = Within 2 u × Within 1 w
Three false u w = Within 1 u × Within 2 w

abbrev three_test : Bool → ℕ → ℕ → Bool
three_test true u w = within_test 2 u && within_test 1 w
three_test false u w = within_test 1 u && within_test 2 w

three_by : (e : Bool) (u w : ℕ) → three_test e u w ≡ true → Three e u w
three_by true u w t = let h = (and-eq-true_iff (within_test 2 u) (within_test 1 w)).0 t in (within_by 2 u h.0, within_by 1 w h.1)
three_by false u w t = let h = (and-eq-true_iff (within_test 1 u) (within_test 2 w)).0 t in (within_by 1 u h.0, within_by 2 w h.1)

by_three : (e : Bool) (u w : ℕ) → Three e u w → three_test e u w ≡ true
by_three true u w k = (and-eq-true_iff (within_test 2 u) (within_test 1 w)).1 (test_within 2 u k.0, test_within 1 w k.1)
by_three false u w k = (and-eq-true_iff (within_test 1 u) (within_test 2 w)).1 (test_within 1 u k.0, test_within 2 w k.1)

pub three_inside : (a b c : Bool) → Three (same b a) (ux (a ∷ b ∷ c ∷ [])) (uy (a ∷ b ∷ c ∷ []))
unfolding num weight three
three_inside a b c =
    three_by (same b a) (ux (a ∷ b ∷ c ∷ [])) (uy (a ∷ b ∷ c ∷ []))
    (bits_agree 3 (λ a b c. three_test (same b a) (ux (a ∷ b ∷ c ∷ [])) (uy (a ∷ b ∷ c ∷ []))) (λ a b c. true) refl a b c)

abbrev three_region : ℕ → ℕ → Bool
three_region u w = three_test (same (odd u) (odd w)) u w

three_all : first (missed three_region 3) 36 ≡ None
unfolding first num weight odd bits three
three_all = refl

pub three_label : (u w : ℕ) → Three (same (odd u) (odd w)) u w → LabelAt 3 u w
three_label u w k =
    let b = near (same (odd u) (odd w)) k in
    found three_region 3 u w three_all b.0 b.1 b.2 b.3 (by_three (same (odd u) (odd w)) u w k)
  where
    near : (e : Bool) → Three e u w → (509 ≤ u) × (u ≤ 514) × (509 ≤ w) × (w ≤ 514)
    near true k = (omega (arith, k.0.left), omega (arith, k.0.right), omega (arith, k.1.left), omega (arith, k.1.right))
    near false k = (omega (arith, k.0.left), omega (arith, k.0.right), omega (arith, k.1.left), omega (arith, k.1.right))
