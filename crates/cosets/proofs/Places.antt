-- The nearest place on an axis, and the nearest of a rectangle.
use Prim.Native.Nat.{ℕ, ◌+◌, ◌-◌, ◌*◌, ◌/◌, ◌%◌, ◌≤◌, min, max}
use mathlib.Core.Path.{◌≡◌, refl}
use native.Mathlib.Nat.{mul-le-mul}
use native.Mathlib.Omega.{arith}
use Rattle.cosets.specs.Grid.{Within, gap, square, NearestPlace, NearestIn}

gap_le : (x t c : ℕ) → x ≤ t + c → t ≤ x + c → gap x t ≤ c
gap_le x t c p q = omega arith

gap_left : (x t : ℕ) → x ≤ t + gap x t
gap_left x t = omega arith

gap_right : (x t : ℕ) → t ≤ x + gap x t
gap_right x t = omega arith

-- c is no less than one distance, so no less than the other
nearest_free : (x low k i c : ℕ) → low ≤ 1 → 2 * low ≤ x + 1 → k ≡ (x + 1 - 2 * low) / 4 → x ≤ 2 * (2 * i + low) + 1 + c → 2 * (2 * i + low) + 1 ≤ x + c
    → (x ≤ 2 * (2 * k + low) + 1 + c) × (2 * (2 * k + low) + 1 ≤ x + c)
nearest_free x low k i c h g e p q = (omega arith, omega arith)

nearest_clamped : (x low f first last i c : ℕ) → low ≤ 1 → 2 * low ≤ x + 1 → f ≡ (x + 1 - 2 * low) / 4 → first ≤ i → i ≤ last
    → x ≤ 2 * (2 * i + low) + 1 + c → 2 * (2 * i + low) + 1 ≤ x + c
    → (x ≤ 2 * (2 * min (max f first) last + low) + 1 + c) × (2 * (2 * min (max f first) last + low) + 1 ≤ x + c)
nearest_clamped x low f first last i c h g e l m p q =
    let r = nearest_free x low f i c h g e p q in
    (omega arith, omega arith)

module _ (x a low k : ℕ) (hx : 1 ≤ x) (ha : 1 ≤ a) (ga : a ≤ 256) (hl : low ≤ 1)
    (e : k ≡ min (max ((x + 1 - 2 * low) / 4) ((513 - a - low) / 2)) ((511 + a - low) / 2)) where
  pub place_parity : (2 * k + low) % 2 ≡ low
  place_parity = omega arith

  first_last : (513 - a - low) / 2 ≤ (511 + a - low) / 2
  first_last = omega arith

  k_first : (513 - a - low) / 2 ≤ k
  k_first = omega (arith, first_last)

  k_last : k ≤ (511 + a - low) / 2
  k_last = omega (arith, first_last)

  pub place_within : Within a (2 * k + low)
  place_within = record { left = omega (arith, k_first); right = omega (arith, k_last) }

  pub place_least : (u : ℕ) → u % 2 ≡ low → Within a u → gap x (2 * (2 * k + low) + 1) ≤ gap x (2 * u + 1)
  place_least u p w =
      let i : ℕ = u / 2 in
      let ui : u ≡ 2 * i + low = omega (arith, p) in
      let l : (513 - a - low) / 2 ≤ i = omega (arith, w.left, ui) in
      let m : i ≤ (511 + a - low) / 2 = omega (arith, w.right, ui) in
      let r = nearest_clamped x low ((x + 1 - 2 * low) / 4) ((513 - a - low) / 2) ((511 + a - low) / 2) i (gap x (2 * u + 1)) hl (omega arith) refl l m
      (rw (← ui) (gap_left x (2 * u + 1))) (rw (← ui) (gap_right x (2 * u + 1))) in
      gap_le x (2 * (2 * k + low) + 1) (gap x (2 * u + 1)) (rw e r.0) (rw e r.1)

  pub place_nearest : NearestPlace x a low (2 * k + low)
  place_nearest = record { parity = place_parity; within = place_within; least = place_least }

square_le : (m n : ℕ) → m ≤ n → m * m ≤ n * n
square_le m n h = mul-le-mul {n₁ = m} {m₁ = m} {n₂ = n} {m₂ = n} h h

pub rectangle : (x y ax ay v1 v0 u w s t : ℕ) → NearestPlace x ax v1 u → NearestPlace y ay v0 w → s ≡ square x u → t ≡ square y w
    → NearestIn x y ax ay v1 v0 (record { u = u; w = w; cost = s + t })
rectangle x y ax ay v1 v0 u w s t p q e f =
    record {
      parity_x = p.parity;
      parity_y = q.parity;
      within_x = p.within;
      within_y = q.within;
      cost = rw (e, f);
      least =
          λ i j gi gj hi hj.
          let a = square_le (gap x (2 * u + 1)) (gap x (2 * i + 1)) (p.least i gi hi) in
          let b = square_le (gap y (2 * w + 1)) (gap y (2 * j + 1)) (q.least j gj hj) in
          omega_sum s t (square x i) (square y j) (rw e a) (rw f b);
    }
  where
    omega_sum : (s t m n : ℕ) → s ≤ m → t ≤ n → s + t ≤ m + n
    omega_sum s t m n a b = omega arith
