-- The plain rule's step as the code takes it, from b bits to b − 2, and the bounds of what it goes by.
use Rattle.std.specs.Prelude.{Option, None, Some}
use Prim.Native.Nat.{ℕ, zero, suc, ◌-◌, ◌*◌, ◌/◌, ◌%◌, ◌^◌, ◌≤◌, ◌<◌}
use mathlib.Core.Bool.{Bool, true, false, ◌||◌, true≢false}
use mathlib.Core.List.{List}
use mathlib.Core.Path.{◌≡◌, refl, sym, ap, ◌∙◌}
use native.Mathlib.Nat.{pow-suc, mod-eq_of_lt}
use native.Mathlib.Omega.{arith}
use borrow.Author.Tests.{le-ltb, eqb-true}
use lib.Dec.{eqb}
use lib.IntN.{ℤ, pos, negsuc, nat_abs}
use lib.Pow.{pow_mono}
use lib.Signed.{mag}
use Rattle.g9932.specs.Answers.{read_point}
use Rattle.g9932.specs.Bits.{bits}
use Rattle.g9932.specs.Plain.{smallest, block_corner, in_block, plain_point, corner_of, low_label, of_block, fourfold, plain_label, label_number, plain_found, plain_read}
use Rattle.g9932.specs.Points.{point_of, same_point, label_of}
use Rattle.g9932.specs.Sizes.{Point}
use Rattle.g9932.proofs.Distances.{point_range}
use Rattle.g9932.proofs.Labels.{point_label}
use Rattle.g9932.proofs.Plain.{larger_points, larger_labels, plain_point_lem, plain_label_lem, plain_read_lem}
use Rattle.g9932.proofs.Search.{first_found}
use Rattle.g9932.proofs.Words.{length_bits, num_lt}
use Rattle.plain_mapper.specs.Bounds.{Below, Within}
use Rattle.plain_mapper.proofs.Signed.{doubled_within}

-- ---- from b bits to b − 2

pub larger : (b : ℕ) → 1 ≤ b → smallest b ≡ false → 4 ≤ b
larger zero h n = absurd (omega arith)
larger (suc zero) h n = absurd (true≢false n)
larger (suc (suc zero)) h n = absurd (true≢false n)
larger (suc (suc (suc zero))) h n = absurd (true≢false n)
larger (suc (suc (suc (suc b)))) h n = omega arith

pub smallest_le : (b : ℕ) → smallest b ≡ true → b ≤ 15
smallest_le b h = go (eqb b 1) (eqb b 2) (eqb b 3) (eqb b 5) refl refl refl refl h
  where
    go : (e1 e2 e3 e5 : Bool) → eqb b 1 ≡ e1 → eqb b 2 ≡ e2 → eqb b 3 ≡ e3 → eqb b 5 ≡ e5 → e1 || e2 || e3 || e5 ≡ true → b ≤ 15
    go true e2 e3 e5 p q r s h = omega (arith, eqb-true b 1 p)
    go false true e3 e5 p q r s h = omega (arith, eqb-true b 2 q)
    go false false true e5 p q r s h = omega (arith, eqb-true b 3 r)
    go false false false true p q r s h = omega (arith, eqb-true b 5 s)
    go false false false false p q r s h = absurd (true≢false (sym h))

pub point_step : (b l : ℕ) → 2 ≤ b → smallest b ≡ false → plain_point b l ≡ in_block (l % 4) (block_corner (plain_point (b - 2) (l / 4)))
point_step zero l h n = absurd (omega arith)
point_step (suc zero) l h n = absurd (omega arith)
point_step (suc (suc b)) l h n = let e : suc (suc b) - 2 ≡ b = omega arith in rw e (larger_points b n l)

pub label_step : (b : ℕ) (p : Point) → 2 ≤ b → smallest b ≡ false → plain_label b p ≡ fourfold (plain_label (b - 2) (of_block (corner_of p))) (low_label p)
label_step zero p h n = absurd (omega arith)
label_step (suc zero) p h n = absurd (omega arith)
label_step (suc (suc b)) p h n = let e : suc (suc b) - 2 ≡ b = omega arith in rw e (larger_labels b n p)

pub quarter_below : (b l : ℕ) → 2 ≤ b → l < 2 ^ b → l / 4 < 2 ^ (b - 2)
quarter_below zero l h k = absurd (omega arith)
quarter_below (suc zero) l h k = absurd (omega arith)
quarter_below (suc (suc b)) l h k =
    let e : suc (suc b) - 2 ≡ b = omega arith in
    rw e (omega (arith, pow-suc 2 b, pow-suc 2 (suc b)))

-- 2 to the b, by a shift in a number of m values
pub shl_one : (b m : ℕ) → b ≤ 15 → 32768 < m → 1 * 2 ^ b % m ≡ 2 ^ b
shl_one b m h k =
    let e : 1 * 2 ^ b ≡ 2 ^ b = omega arith in
    rw e (mod-eq_of_lt (omega (arith, pow_mono {i = b} {j = 15} h)))

-- ---- bounds

mag_abs : (z : ℤ) (n : ℕ) → nat_abs z ≤ n → mag z ≤ n
mag_abs (pos a) n h = h
mag_abs (negsuc a) n h = omega arith

pub plain_within : (b l : ℕ) → 1 ≤ b → b ≤ 15 → l < 2 ^ b → Within 1023 (plain_point b l)
plain_within b l h k m =
    let r = point_range b (bits b l) k (length_bits b l) in
    rw (plain_point_lem b l h m) (mag_abs (point_of b (bits b l)).px 1023 r.0, mag_abs (point_of b (bits b l)).py 1023 r.1)

pub block_within : (p : Point) → Within 1023 p → Within 4095 (block_corner p)
block_within p h = (doubled_within p.px h.0, doubled_within p.py h.1)

number_below : (b : ℕ) (p : Point) → b ≤ 15 → (o : Option (List Bool)) → label_of b p ≡ o → Below 32768 (label_number o)
number_below b p h None e = tt
number_below b p h (Some v) e =
    let l = (point_label b p v e).0 in
    omega (arith, num_lt v, ap (λ (n : ℕ). 2 ^ n) l, pow_mono {i = b} {j = 15} h)

pub label_below : (b : ℕ) (p : Point) → 1 ≤ b → b ≤ 15 → Below 32768 (plain_label b p)
label_below b p h k = rw (plain_label_lem b p h) (number_below b p k (label_of b p) refl)

pub low_below : (p : Point) → Below 4 (low_label p)
low_below p = go (low_label p) refl
  where
    go : (f : Option ℕ) → low_label p ≡ f → Below 4 f
    go (Some k) e = (first_found (λ j. same_point (in_block j (corner_of p)) p) 4 k e).0
    go None e = tt

-- ---- the answer

pub read_as_lem : (b : ℕ) (p : Point) (f : Option ℕ) → 1 ≤ b → b ≤ 15 → f ≡ plain_label b p → read_point b p ≡ plain_found f
unfolding plain_read
read_as_lem b p f h k e = sym (plain_read_lem b p) ∙ rw (le-ltb b 1 h, le-ltb 15 b k, e)
