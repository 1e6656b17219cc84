-- The label of a point by a layout: the lifted word, and the label lowered again.
use Rattle.std.specs.Prelude.{None, Some}
use Rattle.std.specs.Bool.{then_some}
use Rattle.std.specs.Option.{is_some, option_map}
use Prim.Native.Nat.{ℕ, ◌+◌, ◌-◌, ◌*◌, ◌/◌, ◌%◌, ◌^◌, ◌≤◌, ◌<◌}
use mathlib.Core.Bool.{Bool, true, false, cond, true≢false, ◌&&◌}
use mathlib.Core.Path.{◌≡◌, refl, sym, ap, ◌∙◌}
use native.Mathlib.Nat.{mul_assoc, mul_comm, add-mul, mul-div_cancel_left, mul-le-mul, mul-lt-mul_of_pos_right}
use native.Mathlib.Omega.{arith}
use lib.Bits.{bit_and}
use lib.Dec.{eqb, ltb}
use lib.IntN.{ℤ}
use lib.Pow.{pow_pos, pow_mono, pow-add, shr-shr, shl-shr, mod-pow-add, low}
use Rattle.g9932.specs.Bits.{bits, num}
use Rattle.g9932.specs.Points.{label_of, same_point}
use Rattle.g9932.specs.Sizes.{Point, point, origin}
use Rattle.constellation.specs.Widened.{coordinate_of, plain_pairs, sign_weight, interleaved}
use Rattle.constellation.specs.Reading.{NarrowedWord, own_label, top_six, in_grid}
use Rattle.constellation.specs.Layouts.{lower, upper, layout_of, silent_layout, ToneLayout, carries, nothing}
use Rattle.constellation.specs.DemapByLayout.{Power, IsLayout, BitsOf, LiftedWord, TopsBy, LoweredLabel, Demaps}
use Rattle.g9932.proofs.Constellations.{same_point_self, same_point→eq}
use Rattle.constellation.proofs.Grid.{six_few}
use Rattle.constellation.proofs.Layouts.{holds, square}
use Rattle.constellation.proofs.Reading.{off_point, off_grid, on_grid}
use Rattle.constellation.proofs.Tops.{narrowed_top}

-- ---- up and down

twelve : (k : ℕ) → k ≤ 6 → 2 * k + 2 * (6 - k) ≡ 12
twelve k h = omega arith

six_up : (k v w : ℕ) → k ≤ 6 → w ≡ v * 2 ^ (2 * (6 - k)) → w / 1024 ≡ top_six k v
six_up k v w h e =
    let p = 2 * (6 - k) in
    let n : p + 2 * k ≡ 12 = omega arith in
    let a : w / 1024 ≡ 4 * w / 2 ^ 12 = omega arith in
    let f : 4 * w ≡ 4 * v * 2 ^ p = rw e (sym (mul_assoc 4 v (2 ^ p))) in
    a ∙ ap (λ (i : ℕ). 4 * w / 2 ^ i) (sym n) ∙ sym (shr-shr (4 * w) p (2 * k)) ∙ ap (λ (i : ℕ). i / 2 ^ (2 * k)) (ap (λ (i : ℕ). i / 2 ^ p) f ∙ shl-shr (4 * v) p)

plain_up : (k v w : ℕ) → k ≤ 6 → w ≡ v * 2 ^ (2 * (6 - k)) → w % 4096 ≡ v % 2 ^ (2 * k) * 2 ^ (2 * (6 - k))
plain_up k v w h e =
    let p = 2 * (6 - k) in
    let d = mod-pow-add w (2 * k) p in
    let z : v * 2 ^ p ≡ v * 2 ^ p + 0 = omega arith in
    let r : w % 2 ^ p ≡ 0 = rw (e ∙ z) (low v p (pow_pos p)) in
    let q : w / 2 ^ p ≡ v = rw e (shl-shr v p) in
    let s : w % 2 ^ (2 * k + p) ≡ v % 2 ^ (2 * k) * 2 ^ p = d ∙ rw (q, r) (omega arith) in
    ap (λ (i : ℕ). w % 2 ^ i) (sym (twelve k h)) ∙ s

pub square_le : (m : ℕ) → Power m → m * m ≤ 4096
square_le m p = rw (p.2, square p.0) (pow_mono {i = 2 * p.0} {j = 12} (omega (arith, p.1)))

pub down_law : (m t w : ℕ) → LoweredLabel m t w ((8192 * t + 2 * (w % 4096)) * (8 * (m * m)) / 65536)
down_law m t w k v h e f =
    let q = 2 ^ (2 * k) in
    let p = 2 ^ (2 * (6 - k)) in
    let r = v % q in
    let s : m * m ≡ q = rw e (square k) in
    let pq : p * q ≡ 4096 = mul_comm p q ∙ sym (pow-add 2 (2 * k) (2 * (6 - k))) ∙ ap (λ (n : ℕ). 2 ^ n) (twelve k h) in
    let a : 8192 * t * (8 * q) ≡ 65536 * (t * q) = sym (mul_assoc (8192 * t) 8 q) ∙ omega (arith, mul_assoc 65536 t q) in
    let b : r * p * q ≡ r * 4096 = mul_assoc r p q ∙ ap (λ (n : ℕ). r * n) pq in
    let c : 2 * (r * p) * (8 * q) ≡ 65536 * r = sym (mul_assoc (2 * (r * p)) 8 q) ∙ omega (arith, b, mul_assoc 16 (r * p) q) in
    let all : (8192 * t + 2 * (r * p)) * (8 * q) ≡ 65536 * (t * q + r) = omega (arith, add-mul (8192 * t) (2 * (r * p)) (8 * q)) in
    rw (plain_up k v w h f, s, all) (mul-div_cancel_left (t * q + r) (omega arith))

pub product_le : (m t w : ℕ) → Power m → t < 8 → (8192 * t + 2 * (w % 4096)) * (8 * (m * m)) ≤ 65535 * 32768
product_le m t w p h = mul-le-mul {n₂ = 65535} {m₂ = 32768} (omega arith) (omega (arith, square_le m p))

-- ---- what a layout holds

pub is_layout : (s : ℕ) → ToneLayout s → IsLayout s
is_layout s (carries b l m e) = rw e (plain_pairs b, omega arith, (holds b l m).upper_is, (holds b l m).lower_is)
is_layout s (nothing e) = rw e (0, omega arith, refl, refl)

-- a point is on a tone's constellation or off it
pub on_or_off : (s : ℕ) (p : Point) (k : ℕ) → ToneLayout s → Demaps s p (Some k) → Demaps s p None → ⊥
on_or_off s p k (carries b h m e) on off = true≢false (ap is_some (on.sought b h m e ∙ sym (off.sought b h m e)))
on_or_off s p k (nothing e) on off = true≢false (on.silent e ∙ sym (off.silent e))

-- the weight of the pairs
pub upper_fits : (layout : ℕ) → IsLayout layout → (1 ≤ upper layout) × (upper layout ≤ 64)
upper_fits layout s = (omega (arith, s.2, pow_pos s.0), omega (arith, s.2, pow_mono {i = s.0} {j = 6} s.1))

-- the bits of a coordinate, lifted, are eight
pub in_width : (layout : ℕ) (e : ℕ) → IsLayout layout → e < 4 * upper layout → e * lower layout < 256
in_width layout e s l =
    let k = s.0 in
    let n : k + (6 - k) ≡ 6 = omega (arith, s.1) in
    let p : 2 ^ k * 2 ^ (6 - k) ≡ 64 = sym (pow-add 2 k (6 - k)) ∙ ap (λ (i : ℕ). 2 ^ i) n in
    let a : e < 4 * 2 ^ k = rw (← s.2) l in
    let b = mul-lt-mul_of_pos_right a (pow_pos (6 - k)) in
    rw s.3 (omega (arith, mul_assoc 4 (2 ^ k) (2 ^ (6 - k))))

-- ---- the label

-- a silent tone's layout has two marks, and no bit count's has both
abbrev marks : ℕ → ℕ
marks s = bit_and (s / 32768) (s / 128 % 2)

pub marked : (s : ℕ) → s ≡ silent_layout → marks s ≡ 1
marked s e = ap (λ (i : ℕ). marks i) e

pub silent_law : (layout l : ℕ) (p : Point) (o : Bool) → marks layout ≡ 1 → o ≡ same_point p origin → Demaps layout p (then_some o l)
silent_law layout l p o s e = record { sought = λ b low high f. absurd (quiet b low high f); silent = λ f. some o ∙ e }
  where
    quiet : (b : ℕ) → 1 ≤ b → b ≤ 15 → layout ≡ layout_of b → ⊥
    quiet b h k f =
        let both : 1 ≡ 0 = sym s ∙ ap (λ (i : ℕ). marks i) f ∙ (holds b h k).not_silent in
        omega (arith, both)

    some : (o : Bool) → is_some (then_some o l) ≡ o
    some true = refl
    some false = refl

module _ (layout : ℕ) (x y : ℤ) (ex ey w t l r : ℕ) (same on : Bool) (bx : BitsOf (4 * upper layout) x ex) (by : BitsOf (4 * upper layout) y ey)
    (word : LiftedWord (lower layout) ex ey w) (tops : TopsBy layout (w / 1024) on t) (down : LoweredLabel (upper layout) t w l)
    (same_is : same ≡ same_point (point (coordinate_of (4 * upper layout) ex) (coordinate_of (4 * upper layout) ey)) (point x y))
    (own : r ≡ cond (eqb (layout / 32768) 1) (l % 2) l) where
  abbrev own_point : Point
  own_point = point (coordinate_of (4 * upper layout) ex) (coordinate_of (4 * upper layout) ey)

  by_bits : (b : ℕ) → 1 ≤ b → b ≤ 15 → layout ≡ layout_of b → then_some (same && on) r ≡ option_map num (label_of b (point x y))
  by_bits b low high e = go same on refl refl
    where
      k : ℕ
      k = plain_pairs b

      few : k ≤ 6
      few = omega arith

      m : upper layout ≡ 2 ^ k
      m = rw e (holds b low high).upper_is

      h : 4 * upper layout ≡ sign_weight k
      h = ap (λ (i : ℕ). 4 * i) m

      v : ℕ
      v = num (interleaved (bits 8 ex) (bits 8 ey))

      up : w ≡ v * 2 ^ (2 * (6 - k))
      up = word (6 - k) (rw e (holds b low high).lower_is)

      six : w / 1024 ≡ top_six k v
      six = six_up k v w few up

      in_it : on ≡ in_grid b (top_six k v)
      in_it = tops.on_is b low high e (λ z. rw (six, six_few b v z) (omega arith)) ∙ ap (in_grid b) six

      mine : r ≡ own_label b l
      mine = own ∙ ap (λ (i : Bool). cond i (l % 2) l) (ap (λ (s : ℕ). eqb (s / 32768) 1) e ∙ ap (λ (n : ℕ). eqb n 1) (holds b low high).one ∙ one_test (ltb b 2))
        where
          one_test : (c : Bool) → eqb (cond c 1 0) 1 ≡ c
          one_test true = refl
          one_test false = refl

      back : NarrowedWord k v l
      back = rw (down k v few m up) (narrowed_top k v t (λ q i j. tops.three_is q i (j ∙ ap (λ (s : ℕ). s / 4) (sym six))))

      go : (c d : Bool) → same ≡ c → on ≡ d → then_some (c && d) r ≡ option_map num (label_of b (point x y))
      go false d f g =
          let off : own_point ≡ point x y → ⊥ = λ s. true≢false (sym (ap (λ (q : Point). same_point q (point x y)) s ∙ same_point_self (point x y)) ∙ sym same_is ∙ f) in
          off_point b x y low high (rw h at bx) (rw h at by) (rw h at off)
      go true d f g =
          let at : own_point ≡ point x y = same_point→eq own_point (point x y) (sym same_is ∙ f) in
          in_place d g (rw h at at)
        where
          in_place : (d : Bool) → on ≡ d → point (coordinate_of (sign_weight k) ex) (coordinate_of (sign_weight k) ey) ≡ point x y
              → then_some d r ≡ option_map num (label_of b (point x y))
          in_place true g at = ap Some mine ∙ on_grid b x y low high (rw h at bx) (rw h at by) at refl (sym g ∙ in_it) l back
          in_place false g at = off_grid b x y low high (rw h at bx) (rw h at by) at refl (sym g ∙ in_it)

  pub demaps_law : (layout ≡ silent_layout → ⊥) → Demaps layout (point x y) (then_some (same && on) r)
  demaps_law loud = record { sought = by_bits; silent = λ e. absurd (loud e) }
