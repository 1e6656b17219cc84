-- The top bits of a label and of its word: each is the other's exclusive or with an entry of a table.
use Rattle.std.specs.Prelude.{None}
use Prim.Native.Nat.{ℕ, zero, suc, ◌+◌, ◌-◌, ◌*◌, ◌/◌, ◌%◌, ◌^◌, ◌≤◌, ◌<◌}
use mathlib.Core.Bool.{not}
use mathlib.Core.Path.{◌≡◌, refl, sym, ap, ap₂, ◌∙◌}
use native.Mathlib.Nat.{add-zero, add_comm, mod-lt}
use native.Mathlib.Omega.{arith}
use lib.Bits.{bit_xor, xor_block, xor_zero_r, xor_lt}
use lib.Dec.{eqb}
use lib.Pow.{pow_pos, split, high, low, shr-shr, shl_exact}
use Rattle.g9932.specs.Bits.{first}
use Rattle.constellation.specs.Widened.{top_five, top_four, widened_label}
use Rattle.constellation.specs.Reading.{NarrowedWord, top_six}
use Rattle.constellation.proofs.Mapping.{rule}
use Rattle.constellation.proofs.Sizes.{five_lt, four_lt}

-- the top five bits, where there is a pair
pub five_law : (k l : ℕ) → 1 ≤ k → l / 2 ^ (2 * k - 2) ≡ top_five k l
unfolding top_five
five_law zero l h = absurd (omega arith)
five_law (suc j) l h = let e : 2 * suc j - 2 ≡ 2 * j = omega arith in rw e refl

-- the top three of them
three_law : (k l : ℕ) → top_five k l / 4 ≡ l / 2 ^ (2 * k)
unfolding top_five
three_law zero l = omega arith
three_law (suc j) l = let e : 2 * j + 2 ≡ 2 * suc j = omega arith in rw e at (shr-shr l (2 * j) 2)

-- an exclusive or above the plain bits leaves these
xor_top : (p n d : ℕ) → bit_xor n (d * 2 ^ p) ≡ bit_xor (n / 2 ^ p) d * 2 ^ p + n % 2 ^ p
xor_top p n d =
    ap₂ bit_xor (sym (split n p)) (sym (add-zero (d * 2 ^ p)))
    ∙ xor_block p (n / 2 ^ p) d (n % 2 ^ p) 0 (mod-lt n (pow_pos p)) (pow_pos p)
    ∙ ap (λ (r : ℕ). bit_xor (n / 2 ^ p) d * 2 ^ p + r) (xor_zero_r (n % 2 ^ p))

xor_shl : (k n d : ℕ) → k ≤ 6 → d < 16 → bit_xor n (d * 2 ^ (2 * k) % 2 ^ 32) ≡ bit_xor (n / 2 ^ (2 * k)) d * 2 ^ (2 * k) + n % 2 ^ (2 * k)
xor_shl k n d h s = rw (shl_exact 4 (2 * k) 32 s (omega arith)) (xor_top (2 * k) n d)

xor_twice : (q : ℕ) → q < 32 → bit_xor (q / 4) (bit_xor (q / 4) (top_four q)) ≡ top_four q
unfolding first top_four
xor_twice = rule (λ q. bit_xor (q / 4) (bit_xor (q / 4) (top_four q))) top_four 32 refl

pub widened_law : (k l d : ℕ) → k ≤ 6 → l < 2 ^ (2 * k + 3) → d ≡ bit_xor (top_five k l / 4) (top_four (top_five k l)) → bit_xor l (d * 2 ^ (2 * k) % 2 ^ 32) ≡ widened_label k l
unfolding widened_label
widened_law k l d h s e =
    let q = five_lt k l s in
    let t : d < 16 = rw e (xor_lt 4 (top_five k l / 4) (top_four (top_five k l)) (omega arith) (four_lt (top_five k l) q)) in
    rw (xor_shl k l d h t, ← three_law k l, e, xor_twice (top_five k l) q)

-- the top four of a word's top six
six_four : (k w : ℕ) → top_six k w / 4 ≡ w / 2 ^ (2 * k)
six_four k w =
    let f : 4 * w / 4 ≡ w = omega arith in
    shr-shr (4 * w) (2 * k) 2 ∙ ap (λ (n : ℕ). 4 * w / 2 ^ n) (add_comm (2 * k) 2) ∙ sym (shr-shr (4 * w) 2 (2 * k)) ∙ ap (λ (n : ℕ). n / 2 ^ (2 * k)) f

-- the top three bits of the label, by the top four of its word, leave one label
pub narrowed_top : (k w t : ℕ) → ((q : ℕ) → q < 32 → top_four q ≡ top_six k w / 4 → t ≡ q / 4) → NarrowedWord k w (t * 2 ^ (2 * k) + w % 2 ^ (2 * k))
unfolding widened_label
narrowed_top k w t back m l e =
    let r = mod-lt m (pow_pos (2 * k)) in
    let hi : w / 2 ^ (2 * k) ≡ top_four (top_five k m) = rw e (high (top_four (top_five k m)) (2 * k) r) in
    let lo : w % 2 ^ (2 * k) ≡ m % 2 ^ (2 * k) = rw e (low (top_four (top_five k m)) (2 * k) r) in
    let n : t ≡ m / 2 ^ (2 * k) = back (top_five k m) (five_lt k m l) (sym hi ∙ sym (six_four k w)) ∙ three_law k m in
    rw (n, lo) (split m (2 * k))

-- a table by the top four bits gives the top three back
pub narrowed_law : (table : ℕ) → first (λ q. not (eqb (bit_xor (top_four q) (table / 2 ^ (4 * top_four q) % 16)) (q / 4))) 32 ≡ None
    → (k w s : ℕ) → k ≤ 6 → s ≡ top_six k w → NarrowedWord k w (bit_xor w (table / 2 ^ (4 * (s / 4)) % 16 * 2 ^ (2 * k) % 2 ^ 32))
narrowed_law table test k w s h six =
    let back = rule (λ q. bit_xor (top_four q) (table / 2 ^ (4 * top_four q) % 16)) (λ q. q / 4) 32 test in
    rw (six, xor_shl k w (table / 2 ^ (4 * (top_six k w / 4)) % 16) h (omega arith), ← six_four k w)
    (narrowed_top k w (bit_xor (top_six k w / 4) (table / 2 ^ (4 * (top_six k w / 4)) % 16)) (λ q l e. rw (← e) (back q l)))

-- a table of sixteen entries agrees with Table 10-3 from an entry on
pub table_law : (table from q : ℕ) → from + q % 16 ≡ q
    → first (λ i. not (eqb (table / 2 ^ (4 * i) % 16) (bit_xor ((from + i) / 4) (top_four (from + i))))) 16 ≡ None
    → table / 2 ^ (4 * (q % 16)) % 16 ≡ bit_xor (q / 4) (top_four q)
table_law table from q e test =
    rw e at (rule (λ i. table / 2 ^ (4 * i) % 16) (λ i. bit_xor ((from + i) / 4) (top_four (from + i))) 16 test (q % 16) (omega arith))
