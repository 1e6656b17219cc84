-- Which words are those of labels: it shows in their top six bits.
use Rattle.std.specs.Prelude.{Option, None, Some}
use Prim.Native.Nat.{ℕ, zero, suc, ◌+◌, ◌-◌, ◌*◌, ◌/◌, ◌%◌, ◌^◌, ◌≤◌, ◌<◌}
use mathlib.Core.Bool.{Bool, true, false, not, cond, false≢true}
use mathlib.Core.Path.{◌≡◌, refl, sym, ap, ◌∙◌}
use native.Mathlib.Nat.{add-mul, mul_assoc, mod-lt, div-lt_iff_lt-mul}
use native.Mathlib.Omega.{arith}
use borrow.Author.Tests.{eqb-true, eq-eqb, eqb-false, ltb-true, ltb-false, le-ltb, not-false}
use lib.Arith.{digits_lt}
use lib.Dec.{eqb, ltb}
use lib.Pow.{pow_pos, pow-add, shr-shr, shr_lt, split, high, low, mod-pow-add}
use Rattle.g9932.specs.Bits.{or_at, first}
use Rattle.g9932.specs.Trellis.{same}
use Rattle.g9932.proofs.Identities.{same→eq}
use Rattle.g9932.proofs.Search.{first_no}
use Rattle.constellation.specs.Widened.{plain_pairs, top_five, top_four, widened_label, label_word}
use Rattle.constellation.specs.Reading.{top_six, tops, six_of, is_at, in_grid}
use Rattle.constellation.proofs.Lanes.{twice}

-- ---- what is found passes the test, and what passes it is found

first_some : (p : ℕ → Bool) (n : ℕ) → is_at (first p n) ≡ true → (k : ℕ) × (k < n) × (p k ≡ true)
unfolding first
first_some p zero e = absurd (false≢true e)
first_some p (suc n) e = go (first p n) (p n) refl refl e (first_some p n)
  where
    go : (f : Option ℕ) (b : Bool) → first p n ≡ f → p n ≡ b → is_at (or_at f b n) ≡ true → (is_at (first p n) ≡ true → (k : ℕ) × (k < n) × (p k ≡ true))
        → (k : ℕ) × (k < suc n) × (p k ≡ true)
    go (Some j) b f g i r = let w = r (ap is_at f) in (w.0, omega (arith, w.1), w.2)
    go None true f g i r = (n, omega arith, g)
    go None false f g i r = absurd (false≢true i)

some_first : (p : ℕ → Bool) (n k : ℕ) → k < n → p k ≡ true → is_at (first p n) ≡ true
some_first p n k h e = go (first p n) refl
  where
    go : (f : Option ℕ) → first p n ≡ f → is_at f ≡ true
    go (Some j) f = refl
    go None f = absurd (false≢true (sym (first_no p n f k h) ∙ e))

-- ---- a word of at least six bits, by its top six and the bits below

six_form : (j l : ℕ) → widened_label (suc j) l ≡ (4 * top_four (l / 2 ^ (2 * j)) + l / 2 ^ (2 * j) % 4) * 2 ^ (2 * j) + l % 2 ^ (2 * j)
unfolding widened_label top_five
six_form j l =
    let q = l / 2 ^ (2 * j) in
    let t = top_four q in
    let n : 2 * suc j ≡ suc (suc (2 * j)) = omega arith in
    let m : 2 + 2 * j ≡ 2 * suc j = omega arith in
    let a : t * 2 ^ (2 * suc j) ≡ 4 * (t * 2 ^ (2 * j)) = rw n (omega (arith, twice t (suc (2 * j)), twice t (2 * j))) in
    let r : l % 2 ^ (2 * suc j) ≡ q % 4 * 2 ^ (2 * j) + l % 2 ^ (2 * j) = rw (← m) (mod-pow-add l 2 (2 * j)) in
    let d = add-mul (4 * t) (q % 4) (2 ^ (2 * j)) in
    let s = mul_assoc 4 t (2 ^ (2 * j)) in
    rw (a, r) (omega arith)

six_shift : (j w : ℕ) → top_six (suc j) w ≡ w / 2 ^ (2 * j)
six_shift j w =
    let m : 2 + 2 * j ≡ 2 * suc j = omega arith in
    let f : 4 * w / 4 ≡ w = omega arith in
    sym (rw (f, m) at (shr-shr (4 * w) 2 (2 * j)))

-- ---- the labels of at least four bits, by their top five

abbrev rest : ℕ → ℕ
rest b = 2 * (b / 2 - 2)

tops_pow : (b : ℕ) → 4 ≤ b → cond (eqb (b % 2) 0) 16 32 * 2 ^ rest b ≡ 2 ^ b
tops_pow b h = go (eqb (b % 2) 0) refl
  where
    go : (c : Bool) → eqb (b % 2) 0 ≡ c → cond c 16 32 * 2 ^ rest b ≡ 2 ^ b
    go true e =
        let n : 4 + rest b ≡ b = omega (arith, eqb-true (b % 2) 0 e) in
        sym (pow-add 2 4 (rest b)) ∙ ap (λ (m : ℕ). 2 ^ m) n
    go false e =
        let n : 5 + rest b ≡ b = odd_rest (eqb-false (b % 2) 0 e) in
        sym (pow-add 2 5 (rest b)) ∙ ap (λ (m : ℕ). 2 ^ m) n
      where
        odd_rest : (b % 2 ≡ 0 → ⊥) → 5 + rest b ≡ b
        odd_rest f = omega arith

word_form : (b l : ℕ) → 4 ≤ b → label_word b l ≡ (4 * top_four (l / 2 ^ rest b) + l / 2 ^ rest b % 4) * 2 ^ rest b + l % 2 ^ rest b
word_form b l h =
    let k : plain_pairs b ≡ suc (b / 2 - 2) = omega arith in
    rw (k, le-ltb b 2 (omega arith)) (six_form (b / 2 - 2) l)

six_rest : (b w : ℕ) → 4 ≤ b → top_six (plain_pairs b) w ≡ w / 2 ^ rest b
six_rest b w h = let k : plain_pairs b ≡ suc (b / 2 - 2) = omega arith in rw k (six_shift (b / 2 - 2) w)

pub six_few : (b w : ℕ) → b < 4 → top_six (plain_pairs b) w ≡ 4 * w
six_few b w h = let k : plain_pairs b ≡ 0 = omega arith in rw k (omega arith)

-- ---- the words that are in the grid are those of labels

pub grid_word : (b w : ℕ) → in_grid b (top_six (plain_pairs b) w) ≡ true → (l : ℕ) × (l < 2 ^ b) × (label_word b l ≡ w)
unfolding in_grid
grid_word b w e =
    let f = first_some (λ q. eqb (six_of b q) (top_six (plain_pairs b) w)) (tops b) e in
    go (ltb b 4) refl f.0 f.1 (eqb-true (six_of b f.0) (top_six (plain_pairs b) w) f.2)
  where
    go : (c : Bool) → ltb b 4 ≡ c → (q : ℕ) → q < cond c (2 ^ b) (cond (eqb (b % 2) 0) 16 32)
        → cond c (4 * label_word b q) (4 * top_four q + q % 4) ≡ top_six (plain_pairs b) w → (l : ℕ) × (l < 2 ^ b) × (label_word b l ≡ w)
    go true c q i g = (q, i, omega (arith, six_few b w (ltb-true b 4 c)))
    go false c q i g =
        let k = ltb-false b 4 c in
        let r = mod-lt w (pow_pos (rest b)) in
        let l = q * 2 ^ rest b + w % 2 ^ rest b in
        let hi : l / 2 ^ rest b ≡ q = high q (rest b) r in
        let lo : l % 2 ^ rest b ≡ w % 2 ^ rest b = low q (rest b) r in
        (l, rw (← tops_pow b k) (digits_lt i r), word_form b l k ∙ rw (hi, lo, g ∙ six_rest b w k) (split w (rest b)))

pub word_grid : (b l : ℕ) → l < 2 ^ b → in_grid b (top_six (plain_pairs b) (label_word b l)) ≡ true
unfolding in_grid
word_grid b l h = go (ltb b 4) refl
  where
    go : (c : Bool) → ltb b 4 ≡ c
        → is_at (first (λ q. eqb (cond c (4 * label_word b q) (4 * top_four q + q % 4)) (top_six (plain_pairs b) (label_word b l))) (cond c (2 ^ b) (cond (eqb (b % 2) 0) 16 32))) ≡ true
    go true c = some_first _ _ l h (eq-eqb _ _ (sym (six_few b (label_word b l) (ltb-true b 4 c))))
    go false c =
        let k = ltb-false b 4 c in
        let q = l / 2 ^ rest b in
        let r = mod-lt l (pow_pos (rest b)) in
        let i : q < cond (eqb (b % 2) 0) 16 32 = (div-lt_iff_lt-mul (pow_pos (rest b))).1 (rw (tops_pow b k) h) in
        let e : top_six (plain_pairs b) (label_word b l) ≡ 4 * top_four q + q % 4 =
        six_rest b (label_word b l) k ∙ ap (λ (w : ℕ). w / 2 ^ rest b) (word_form b l k) ∙ high (4 * top_four q + q % 4) (rest b) r in
        some_first _ _ q i (eq-eqb _ _ (sym e))

pub six_lt : (k w : ℕ) → w < 2 ^ (4 + 2 * k) → top_six k w < 64
six_lt k w h = shr_lt 6 (2 * k) (rw (pow-add 2 6 (2 * k)) (omega (arith, pow-add 2 4 (2 * k))))

-- ---- a table of the grid, a bit for each top six

abbrev held : ℕ → ℕ → Bool
held table s = eqb (table / 2 ^ s % 2) 1

-- two tests of numbers agree below n, by a test of all of them
pub bit_rule : (f g : ℕ → Bool) (n : ℕ) → first (λ k. not (same (f k) (g k))) n ≡ None → (k : ℕ) → k < n → f k ≡ g k
bit_rule f g n e k h = same→eq (f k) (g k) (not-false (same (f k) (g k)) (first_no (λ k. not (same (f k) (g k))) n e k h))

-- b from 4, by the number of top fives
pub grid_table : (table n : ℕ) → first (λ s. not (same (held table s) (is_at (first (λ q. eqb (4 * top_four q + q % 4) s) n)))) 64 ≡ None
    → (b s : ℕ) → 4 ≤ b → cond (eqb (b % 2) 0) 16 32 ≡ n → s < 64 → held table s ≡ in_grid b s
unfolding in_grid
grid_table table n test b s h e k =
    rw (le-ltb b 4 h, e) (bit_rule (held table) (λ s. is_at (first (λ q. eqb (4 * top_four q + q % 4) s) n)) 64 test s k)

-- b up to 3
pub small_table : (table b : ℕ) → first (λ i. not (same (held table (4 * i)) (in_grid b (4 * i)))) 16 ≡ None
    → (s : ℕ) → s < 64 → s % 4 ≡ 0 → held table s ≡ in_grid b s
small_table table b test s h e =
    let n : 4 * (s / 4) ≡ s = omega arith in
    rw n at (bit_rule (λ i. held table (4 * i)) (λ i. in_grid b (4 * i)) 16 test (s / 4) (omega arith))

-- an even b, from either side of 4
pub even_table : (table : ℕ) → first (λ s. not (same (held table s) (is_at (first (λ q. eqb (4 * top_four q + q % 4) s) 16)))) 64 ≡ None
    → first (λ i. not (same (held table (4 * i)) (in_grid 2 (4 * i)))) 16 ≡ None
    → (b s : ℕ) → 1 ≤ b → b % 2 ≡ 0 → s < 64 → (b < 4 → s % 4 ≡ 0) → held table s ≡ in_grid b s
even_table table large small b s h e k z = go (ltb b 4) refl
  where
    go : (c : Bool) → ltb b 4 ≡ c → held table s ≡ in_grid b s
    go true c =
        let l = ltb-true b 4 c in
        let two : b ≡ 2 = omega arith in
        rw two (small_table table 2 small s k (z l))
    go false c = grid_table table 16 large b s (ltb-false b 4 c) (rw (eq-eqb (b % 2) 0 e)) k
