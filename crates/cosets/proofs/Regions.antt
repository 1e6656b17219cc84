-- The places of the labels of b bits are those of two rectangles.
use Prim.Native.Nat.{ℕ, zero, suc, ◌+◌, ◌-◌, ◌*◌, ◌/◌, ◌%◌, ◌^◌, ◌≤◌}
use mathlib.Core.Bool.{Bool, true, false, ◌&&◌, ◌||◌, and-eq-true_iff}
use mathlib.Core.List.{List, [], ◌∷◌}
use mathlib.Core.Logic.{◌⊎◌, inl, inr, ⊎_elim}
use mathlib.Core.Path.{◌≡◌, refl, ap, ◌∙◌}
use native.Mathlib.Nat.{pow-suc}
use native.Mathlib.Omega.{arith}
use borrow.Author.Tests.{ltb-true, leb-true}
use lib.Dec.{ltb, leb}
use lib.ListN.{length}
use Rattle.g9932.specs.Bits.{weight}
use Rattle.g9932.proofs.Coordinates.{push, coords, coords_length, axis_bits, axis_bits_pos}
use Rattle.cosets.specs.Grid.{Within, inner, outer}
use Rattle.cosets.proofs.Spots.{spot, spot_cons}

-- ---- two rectangles

abbrev pub Cross : ℕ → ℕ → ℕ → ℕ → Type 0
Cross a c u w = (Within a u × Within c w) ⊎ (Within c u × Within a w)

within_two : (a u v b : ℕ) → b ≤ 1 → v + 512 ≡ 2 * u + b → Within a u → Within (2 * a) v
within_two a u v b h e w = record { left = omega (arith, w.left); right = omega (arith, w.right) }

within_half : (a u : ℕ) → Within (2 * a) u → Within a ((u + 512) / 2)
within_half a u w = record { left = omega (arith, w.left); right = omega (arith, w.right) }

pub cross_two : (a c u w u' w' p q : ℕ) → p ≤ 1 → q ≤ 1 → u' + 512 ≡ 2 * u + p → w' + 512 ≡ 2 * w + q → Cross a c u w → Cross (2 * a) (2 * c) u' w'
cross_two a c u w u' w' p q hp hq e f =
    ⊎_elim (λ k. inl (within_two a u u' p hp e k.0, within_two c w w' q hq f k.1))
    (λ k. inr (within_two c u u' p hp e k.0, within_two a w w' q hq f k.1))

pub cross_half : (a c u w : ℕ) → Cross (2 * a) (2 * c) u w → Cross a c ((u + 512) / 2) ((w + 512) / 2)
cross_half a c u w =
    ⊎_elim (λ k. inl (within_half a u k.0, within_half c w k.1)) (λ k. inr (within_half c u k.0, within_half a w k.1))

-- the same as a test
abbrev pub within_test : ℕ → ℕ → Bool
within_test a u = leb 512 (u + a) && ltb u (512 + a)

abbrev pub cross_test : ℕ → ℕ → ℕ → ℕ → Bool
cross_test a c u w = within_test a u && within_test c w || within_test c u && within_test a w

pub within_by : (a u : ℕ) → within_test a u ≡ true → Within a u
within_by a u e =
    let k = (and-eq-true_iff (leb 512 (u + a)) (ltb u (512 + a))).0 e in
    record { left = leb-true 512 (u + a) k.0; right = ltb-true u (512 + a) k.1 }

or-true : (p q : Bool) → p || q ≡ true → (p ≡ true) ⊎ (q ≡ true)
or-true true q e = inl refl
or-true false q e = inr e

pub cross_by : (a c u w : ℕ) → cross_test a c u w ≡ true → Cross a c u w
cross_by a c u w e =
    ⊎_elim
    (λ k. let h = (and-eq-true_iff (within_test a u) (within_test c w)).0 k in inl (within_by a u h.0, within_by c w h.1))
    (λ k. let h = (and-eq-true_iff (within_test c u) (within_test a w)).0 k in inr (within_by c u h.0, within_by a w h.1))
    (or-true (within_test a u && within_test c w) (within_test c u && within_test a w) e)

-- ---- sizes

pub inner_two : (n : ℕ) → 2 ≤ n → inner (suc (suc n)) ≡ 2 * inner n
inner_two n h =
    let e : suc (suc n) / 2 - 1 ≡ suc (n / 2 - 1) = omega arith in
    ap (λ (k : ℕ). 2 ^ k) e ∙ pow-suc 2 (n / 2 - 1) ∙ omega arith

outer_by : (i r : ℕ) → r ≤ 1 → (r ≡ 1 → i % 2 ≡ 0) → 2 * i + r * ((2 * i + 1) / 2) ≡ 2 * (i + r * ((i + 1) / 2))
outer_by i zero h g = omega arith
outer_by i (suc zero) h g = omega (arith, g refl)
outer_by i (suc (suc r)) h g = absurd (omega arith)

pub outer_two : (n : ℕ) → 2 ≤ n → (n % 2 ≡ 1 → inner n % 2 ≡ 0) → outer (suc (suc n)) ≡ 2 * outer n
outer_two n h g =
    let e : suc (suc n) % 2 ≡ n % 2 = omega arith in
    rw (inner_two n h, e) (outer_by (inner n) (n % 2) (omega arith) g)

pub inner_even : (n : ℕ) → 4 ≤ n → inner n % 2 ≡ 0
inner_even n h =
    let e : n / 2 - 1 ≡ suc (n / 2 - 2) = omega arith in
    let f : 2 ^ (n / 2 - 1) ≡ 2 * 2 ^ (n / 2 - 2) = ap (λ (k : ℕ). 2 ^ k) e ∙ pow-suc 2 (n / 2 - 2) ∙ omega arith in
    omega (arith, f)

-- ---- two bits pushed below

pub axis_small : (n : ℕ) → n ≤ 15 → axis_bits n ≤ 8
axis_small n h = go n
  where
    by : (n : ℕ) → axis_bits n ≤ (n + 1) / 2
    by zero = omega arith
    by (suc zero) = omega arith
    by (suc (suc zero)) = omega arith
    by (suc (suc (suc zero))) = omega arith
    by (suc (suc (suc (suc zero)))) = omega arith
    by (suc (suc (suc (suc (suc zero))))) = omega arith
    by (suc (suc (suc (suc (suc (suc n)))))) = omega (arith, by (suc (suc (suc (suc n)))))

    go : (m : ℕ) → axis_bits n ≤ 8
    go m = omega (arith, by n)

pub coords_push : (a b : Bool) (v : List Bool) → (length v ≡ 2) ⊎ (4 ≤ length v) → coords (a ∷ b ∷ v) ≡ push a b (coords v)
coords_push a b [] h = absurd (⊎_elim (λ e. omega arith) (λ e. omega arith) h)
coords_push a b (c ∷ []) h = absurd (⊎_elim (λ e. omega arith) (λ e. omega arith) h)
coords_push a b (c ∷ d ∷ []) h = refl
coords_push a b (c ∷ d ∷ e ∷ []) h = absurd (⊎_elim (λ e. omega arith) (λ e. omega arith) h)
coords_push a b (c ∷ d ∷ e ∷ f ∷ l) h = refl

spot_push : (b : Bool) (l : List Bool) → 1 ≤ length l → length l ≤ 8 → spot (b ∷ l) + 512 ≡ 2 * spot l + weight b
spot_push b [] h g = absurd (omega arith)
spot_push b (c ∷ l) h g = spot_cons b c l g

-- the places of a label
abbrev pub ux : List Bool → ℕ
ux v = spot (coords v).xs

abbrev pub uy : List Bool → ℕ
uy v = spot (coords v).ys

pub record Pushed (a b : Bool) (v : List Bool) : Type 0 where
  pub x : ux (a ∷ b ∷ v) + 512 ≡ 2 * ux v + weight b
  pub y : uy (a ∷ b ∷ v) + 512 ≡ 2 * uy v + weight a

pub pushed : (a b : Bool) (v : List Bool) → (length v ≡ 2) ⊎ (4 ≤ length v) → length v ≤ 15 → Pushed a b v
pushed a b v h s =
    let n = coords_length v in
    let p = axis_bits_pos (length v) (⊎_elim (λ e. omega arith) (λ e. omega arith) h) in
    let m = axis_small (length v) s in
    record {
      x = rw (coords_push a b v h) (spot_push b (coords v).xs (omega (arith, n.0)) (omega (arith, n.0)));
      y = rw (coords_push a b v h) (spot_push a (coords v).ys (omega (arith, n.1)) (omega (arith, n.1)));
    }
