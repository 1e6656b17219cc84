-- The pairs of the entries from a place on.
use mathlib.Core.Path.{◌≡◌, refl, sym, ap, ◌∙◌}
use mathlib.Core.Bool.{Bool, true, false}
use mathlib.Core.List.{List, [], ◌∷◌}
use Prim.Native.Nat.{ℕ, ◌+◌, ◌-◌, ◌%◌, ◌≤◌, ◌<◌}
use native.Mathlib.Omega.{arith}
use borrow.Author.Tests.{lt-ltb, le-ltb, ltb-true, ltb-false, eq-eqb, ne_eqb}
use lib.Dec.{ltb}
use lib.ListN.{length, drop, get_or, length-drop}
use lib.Seq.{drop-cons}
use Rattle.g9932.specs.Order.{Wide, pair, in_twos, pairs_of}
use Rattle.g9932.specs.Trellis.{last_two, taken, taken_total}
use Rattle.g9932.proofs.Formed.{last_two_length, three_pairs}
use Rattle.g9932.proofs.Lists.{drop_two}

-- none where fewer than two entries are left
pub in_twos_short : (l : List ℕ) → length l ≤ 1 → in_twos l ≡ []
in_twos_short [] h = refl
in_twos_short (a ∷ []) h = refl
in_twos_short (a ∷ b ∷ l) h = absurd (omega arith)

ltb_shift : (n i : ℕ) → i + 2 ≤ n → ltb (n - i) 6 ≡ ltb (n - (i + 2)) 4
ltb_shift n i h = go (ltb (n - (i + 2)) 4) refl
  where
    go : (b : Bool) → ltb (n - (i + 2)) 4 ≡ b → ltb (n - i) 6 ≡ b
    go true e = lt-ltb (n - i) 6 (let k = ltb-true (n - (i + 2)) 4 e in omega arith)
    go false e = le-ltb (n - i) 6 (let k = ltb-false (n - (i + 2)) 4 e in omega arith)

-- a pair is one of the last two where fewer than six entries are left, its own among them
pub is_forced_lem : (es : List ℕ) (i : ℕ) {forced : Bool} → i + 1 < length es → forced ≡ ltb (length es - i) 6 → forced ≡ last_two (in_twos (drop (i + 2) es))
is_forced_lem es i more e = e ∙ ltb_shift (length es) i (omega arith) ∙ sym (last_two_length (drop (i + 2) es) ∙ rw length-drop)

-- the pair at an entry: it is cut off, and its counts are 2 to 15
module _ (es : List ℕ) (i x y : ℕ) where
  pub cut_pair : i + 1 < length es → x ≡ get_or es i 0 → y ≡ get_or es (i + 1) 0 → in_twos (drop i es) ≡ pair x y ∷ in_twos (drop (i + 2) es)
  cut_pair more hx hy = rw (drop_two es i more, hx, hy)

  pub pair_wide : Wide es → i + 1 < length es → x ≡ get_or es i 0 → y ≡ get_or es (i + 1) 0 → (2 ≤ x) × (x ≤ 15) × (2 ≤ y) × (y ≤ 15)
  pair_wide wide more hx hy =
      let a = wide i (omega arith) in
      let b = wide (i + 1) more in
      rw (hx, hy) (a.0, a.1, b.0, b.1)

-- all pairs: as they stand, or with a 0 in front
pub whole_pairs : (es : List ℕ) → (length es % 2 ≡ 1 → ⊥) → pairs_of es ≡ in_twos (drop 0 es)
whole_pairs es even = rw (ne_eqb (length es % 2) 1 even)

pub padded_pairs : (es : List ℕ) (y : ℕ) → 4 ≤ length es → length es % 2 ≡ 1 → y ≡ get_or es 0 0 → pairs_of es ≡ pair 0 y ∷ in_twos (drop 1 es)
padded_pairs es y enough odd hy =
    let d : drop 0 es ≡ get_or es 0 0 ∷ drop 1 es = drop-cons es 0 0 (omega arith) in
    rw (eq-eqb (length es % 2) 1 odd) (ap (λ (l : List ℕ). in_twos (0 ∷ l)) d ∙ rw hy)

-- the pair with the 0 is not among the last two
pub not_forced : (es : List ℕ) → 4 ≤ length es → length es % 2 ≡ 1 → false ≡ last_two (in_twos (drop 1 es))
not_forced es enough odd = sym (three_pairs (drop 1 es) (simp length-drop (omega arith)))

-- and the bits that the pairs take, with the 0 in front
pub padded_taken : (es : List ℕ) (y : ℕ) → 4 ≤ length es → length es % 2 ≡ 1 → y ≡ get_or es 0 0
    → taken_total (pairs_of es) ≡ taken false (pair 0 y) + taken_total (in_twos (drop 1 es))
padded_taken es y enough odd hy = rw (padded_pairs es y enough odd hy, ← (not_forced es enough odd))
