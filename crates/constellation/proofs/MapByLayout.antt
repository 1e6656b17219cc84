-- The steps of `point_by`: a label lifted to the top of sixteen bits, its word there, and the bits of X and Y scaled back.
use Prim.Native.Nat.{ℕ, zero, suc, ◌+◌, ◌-◌, ◌*◌, ◌/◌, ◌%◌, ◌^◌, ◌≤◌, ◌<◌}
use mathlib.Core.Bool.{Bool}
use mathlib.Core.List.{List, ◌++◌, map}
use mathlib.Core.Path.{◌≡◌, refl, sym, ap, ap₂, ◌∙◌}
use native.Mathlib.Nat.{mul-zero, mul_comm, mul_assoc, add-mul, add_comm, mul-lt-mul_of_pos_right, lt_of_lt_of_le, mod-lt}
use native.Mathlib.Omega.{arith}
use lib.Bits.{bit_and}
use lib.ListN.{length}
use lib.Pow.{pow_pos, pow_mono, pow-add, shr-shr, shl-shr, shr_le, split, high, field}
use Rattle.g9932.specs.Bits.{weight, num, odd, bits}
use Rattle.g9932.specs.Points.{evens}
use Rattle.g9932.specs.Sizes.{point}
use Rattle.g9932.proofs.Words.{half_weight}
use Rattle.constellation.specs.Widened.{plain_pairs, top_five, top_four, widened_label, label_word, x_bits, y_bits, sign_weight, coordinate_of}
use Rattle.constellation.specs.Layouts.{lower, upper}
use Rattle.constellation.specs.MapByLayout.{Mappable, label, silent, MapsByRule, lifted_label, widened_lifted, scaled_coordinate}
use Rattle.constellation.proofs.Lanes.{Slot, full, worth, gaps, gaps_worth, full_worth, bits_held, masked, squeeze, squeezed, mask_held, squeeze_held, OfBits, of_bits_lem, twice}
use Rattle.constellation.proofs.Layouts.{holds, square}
use Rattle.constellation.proofs.Mapping.{point_word}
use Rattle.constellation.proofs.Sizes.{evens_long, evens_more, evens_lt, odds_evens, large_word}

-- ---- every other bit of a word

abbrev evens_list : List Bool → List Slot
evens_list l = squeezed 4 0x00ff (squeezed 2 0x0f0f (squeezed 1 0x3333 (masked (bits 32 0x5555) (map full l))))

evens_bits : OfBits 16 (λ l. evens_list l ≡ map full (evens l) ++ gaps 8)
unfolding bits odd
evens_bits a b c d e f g h i j k l m n o p = refl

pub evens_law : (w : ℕ) → w < 65536 → squeeze 4 0x00ff (squeeze 2 0x0f0f (squeeze 1 0x3333 (bit_and w 0x5555))) ≡ y_bits w
evens_law w h =
    let held =
    squeeze_held 4 0x00ff (omega arith) (squeeze_held 2 0x0f0f (omega arith) (squeeze_held 1 0x3333 (omega arith)
    (mask_held 0x5555 (omega arith) (bits_held 16 w h)))) in
    let none : 2 ^ length (evens (bits 16 w)) * worth (gaps 8) ≡ 0 = rw (gaps_worth 8) (mul-zero _) in
    held.is ∙ ap worth (of_bits_lem 16 (λ l. evens_list l ≡ map full (evens l) ++ gaps 8) evens_bits w)
    ∙ full_worth (evens (bits 16 w)) (gaps 8) ∙ omega arith

pub bits_256 : (w : ℕ) → y_bits w < 256
bits_256 w = evens_lt 8 16 w (omega arith)

-- the bits of X are those of Y in half the word
x_bits_lem : (w : ℕ) → w < 65536 → y_bits (w / 2) ≡ x_bits w
x_bits_lem w h = rw (odds_evens 15 w) (evens_more 15 (w / 2) (omega arith))

-- two bits fewer of a word are one bit fewer of each half
evens_two : (n w : ℕ) → num (evens (bits (suc (suc n)) w)) ≡ weight (odd w) + 2 * num (evens (bits n (w / 2 / 2)))
unfolding bits num
evens_two n w = refl

fewer_two : (w : ℕ) → w < 65536 → y_bits (w / 4) ≡ y_bits w / 2
fewer_two w h =
    let f : w / 2 / 2 ≡ w / 4 = omega arith in
    let e = rw f at (evens_long 2 14 (w / 2 / 2) (omega arith)) in
    let t = rw f at (evens_two 14 w) in
    rw (e, t) (sym (half_weight (odd w) (num (evens (bits 14 (w / 4))))))

fewer : (j w : ℕ) → w < 65536 → y_bits (w / 2 ^ (2 * j)) ≡ y_bits w / 2 ^ j
fewer zero w h = let f : w / 1 ≡ w = omega arith in let g : y_bits w / 1 ≡ y_bits w = omega arith in rw (f, g)
fewer (suc j) w h =
    let n : 2 + 2 * j ≡ 2 * suc j = omega arith in
    let m : 1 + j ≡ suc j = omega arith in
    rw (← n, ← (shr-shr w 2 (2 * j)), ← m, ← (shr-shr (y_bits w) 1 j), ← (fewer_two w h)) (fewer j (w / 4) (omega arith))

fewer_y : (k w : ℕ) → k ≤ 6 → w < 65536 → y_bits (w / 2 ^ (12 - 2 * k)) ≡ y_bits w * 2 ^ k / 64
fewer_y k w h s =
    let n : 12 - 2 * k ≡ 2 * (6 - k) = omega arith in
    let m : k + (6 - k) ≡ 6 = omega arith in
    rw n (fewer (6 - k) w s ∙ ap (λ (e : ℕ). e / 2 ^ (6 - k)) (sym (shl-shr (y_bits w) k)) ∙ rw m at (shr-shr (y_bits w * 2 ^ k) k (6 - k)))

fewer_x : (k w : ℕ) → k ≤ 6 → w < 65536 → x_bits (w / 2 ^ (12 - 2 * k)) ≡ x_bits w * 2 ^ k / 64
fewer_x k w h s =
    let p = 12 - 2 * k in
    let e : w / 2 ^ p / 2 ≡ w / 2 / 2 ^ p = shr-shr w p 1 ∙ ap (λ (n : ℕ). w / 2 ^ n) (add_comm p 1) ∙ sym (shr-shr w 1 p) in
    sym (x_bits_lem (w / 2 ^ p) (le_lt (shr_le w p))) ∙ ap (λ (v : ℕ). y_bits v) e ∙ fewer_y k (w / 2) h (omega arith) ∙ ap (λ (v : ℕ). v * 2 ^ k / 64) (x_bits_lem w s)
  where
    le_lt : w / 2 ^ (12 - 2 * k) ≤ w → w / 2 ^ (12 - 2 * k) < 65536
    le_lt i = omega arith

-- ---- a label at the top of sixteen bits

-- one number above zeros
lifted_form : (p l : ℕ) → lifted_label (2 ^ p) l ≡ l * 2 ^ suc p
lifted_form p l = sym (twice l p)

lifted_high : (p l : ℕ) → lifted_label (2 ^ p) l / 2 ^ suc p ≡ l
lifted_high p l = rw (lifted_form p l) (shl-shr l (suc p))

lifted_five : (k l : ℕ) → 1 ≤ k → k ≤ 6 → lifted_label (2 ^ (12 - 2 * k)) l / 2048 ≡ top_five k l
unfolding top_five
lifted_five zero l o h = absurd (omega arith)
lifted_five (suc j) l o h =
    let p = 12 - 2 * suc j in
    let n : suc p + 2 * j ≡ 11 = omega arith in
    sym (rw (lifted_high p l, n) at (shr-shr (lifted_label (2 ^ p) l) (suc p) (2 * j)))

module _ (k l : ℕ) (h : k ≤ 6) where
  abbrev p : ℕ
  p = 12 - 2 * k

  twelve : 2 * k + p ≡ 12
  twelve = omega arith

  lifted_lt : l < 2 ^ (2 * k + 3) → lifted_label (2 ^ p) l < 65536
  lifted_lt s =
      let n : 2 * k + 3 + suc p ≡ 16 = omega arith in
      let e : 2 ^ (2 * k + 3) * 2 ^ suc p ≡ 65536 = sym (pow-add 2 (2 * k + 3) (suc p)) ∙ ap (λ (m : ℕ). 2 ^ m) n in
      rw (lifted_form p l, ← e) (mul-lt-mul_of_pos_right s (pow_pos (suc p)))

  lifted_low : lifted_label (2 ^ p) l / 2 % 4096 / 2 ^ p ≡ l % 2 ^ (2 * k)
  lifted_low =
      let n : 1 + p ≡ suc p = omega arith in
      let e : lifted_label (2 ^ p) l / 2 / 2 ^ p ≡ l = shr-shr (lifted_label (2 ^ p) l) 1 p ∙ ap (λ (n : ℕ). lifted_label (2 ^ p) l / 2 ^ n) n ∙ lifted_high p l in
      rw (twelve, e) at (field (lifted_label (2 ^ p) l / 2) (2 * k) p)

  -- the word of the label stands at the top
  widened_lifted_high : 1 ≤ k → widened_lifted (lifted_label (2 ^ p) l) / 2 ^ p ≡ widened_label k l
  unfolding widened_label
  widened_lifted_high o =
      let t = top_four (top_five k l) in
      let r = lifted_label (2 ^ p) l / 2 % 4096 in
      let e : t * 2 ^ (2 * k) * 2 ^ p ≡ 4096 * t = mul_assoc t (2 ^ (2 * k)) (2 ^ p) ∙ ap (λ (n : ℕ). t * n) (sym (pow-add 2 (2 * k) p) ∙ ap (λ (n : ℕ). 2 ^ n) twelve) ∙ mul_comm t 4096 in
      let a : 4096 * t + r ≡ (t * 2 ^ (2 * k) + l % 2 ^ (2 * k)) * 2 ^ p + r % 2 ^ p =
      rw (add-mul (t * 2 ^ (2 * k)) (l % 2 ^ (2 * k)) (2 ^ p), e, ← lifted_low) (omega (arith, split r p)) in
      rw (lifted_five k l o h, a) (high (t * 2 ^ (2 * k) + l % 2 ^ (2 * k)) p (mod-lt r (pow_pos p)))

-- ---- every tone

-- a label has three bits above k pairs, whose powers the layout holds
pub record Liftable (s l : ℕ) : Type 0 where
  pub pairs : ℕ
  pub few : pairs ≤ 6
  pub lower_is : lower s ≡ 2 ^ (6 - pairs)
  pub upper_is : upper s ≡ 2 ^ pairs
  pub small : l < 2 ^ (2 * pairs + 3)

pub liftable : (s l : ℕ) → Mappable s l → Liftable s l
liftable s l (label b h k e i) =
    record {
      pairs = plain_pairs b;
      few = omega arith;
      lower_is = rw e (holds b h k).lower_is;
      upper_is = rw e (holds b h k).upper_is;
      small = lt_of_lt_of_le i (pow_mono {i = b} {j = 2 * plain_pairs b + 3} (omega arith));
    }
liftable s l (silent e i) = record { pairs = 0; few = omega arith; lower_is = rw e refl; upper_is = rw e refl; small = omega arith }

lower_square : (k : ℕ) → k ≤ 6 → 2 ^ (6 - k) * 2 ^ (6 - k) ≡ 2 ^ (12 - 2 * k)
lower_square k h = let n : 2 * (6 - k) ≡ 12 - 2 * k = omega arith in square (6 - k) ∙ ap (λ (m : ℕ). 2 ^ m) n

module _ {s l : ℕ} (t : Liftable s l) where
  pub liftable_label : (lower s ≤ 64) × (lifted_label (lower s * lower s) l < 65536)
  liftable_label =
      let small : 2 ^ (6 - t.pairs) ≤ 2 ^ 6 = pow_mono {i = 6 - t.pairs} {j = 6} (omega arith) in
      rw (t.lower_is, lower_square t.pairs t.few) (small, lifted_lt t.pairs l t.few t.small)

  pub liftable_upper : (1 ≤ upper s) × (upper s ≤ 64)
  liftable_upper = rw t.upper_is (pow_pos t.pairs, pow_mono {i = t.pairs} {j = 6} t.few)

-- The point that the code makes of a layout and a label of 9 bits or more.
pub maps_by_rule : (s l w : ℕ) → w < 65536 → w ≡ widened_lifted (lifted_label (lower s * lower s) l)
    → MapsByRule s l (point (scaled_coordinate (upper s) (y_bits (w / 2))) (scaled_coordinate (upper s) (y_bits w)))
maps_by_rule s l w n e b h i o z =
    let k = plain_pairs b in
    let few : k ≤ 6 = omega arith in
    let c : lower s ≡ 2 ^ (6 - k) = rw o (holds b (omega arith) i).lower_is in
    let m : upper s ≡ 2 ^ k = rw o (holds b (omega arith) i).upper_is in
    let lifted : w ≡ widened_lifted (lifted_label (2 ^ (12 - 2 * k)) l) = e ∙ ap (λ (v : ℕ). widened_lifted (lifted_label v l)) (ap₂ (λ (a b : ℕ). a * b) c c ∙ lower_square k few) in
    let word : w / 2 ^ (12 - 2 * k) ≡ label_word b l = ap (λ (v : ℕ). v / 2 ^ (12 - 2 * k)) lifted ∙ widened_lifted_high k l few (omega arith) ∙ sym (large_word b l (omega arith)) in
    let x = ap (λ (v : ℕ). v * 2 ^ k / 64) (x_bits_lem w n) ∙ sym (fewer_x k w few n) ∙ ap (λ (v : ℕ). x_bits v) word in
    let y = sym (fewer_y k w few n) ∙ ap (λ (v : ℕ). y_bits v) word in
    rw m (ap₂ point (ap (coordinate_of (sign_weight k)) x) (ap (coordinate_of (sign_weight k)) y) ∙ sym (point_word b l (omega arith) i z))
