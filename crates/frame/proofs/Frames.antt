-- The FRAME test: a frame of the right length has its unused bits in its first byte and its last.
use mathlib.Core.Path.{◌≡◌, refl, ◌∙◌}
use mathlib.Core.Bool.{Bool, true, false, not}
use mathlib.Core.List.{List, [], ◌∷◌}
use Prim.Native.Nat.{ℕ, ◌+◌, ◌*◌, ◌/◌, ◌%◌, ◌^◌, ◌≤◌, ◌<◌}
use native.Mathlib.Omega.{arith}
use lib.Dec.{eqb}
use borrow.Author.Tests.{eq-eqb, ne_eqb, eqb-true, eqb-false}
use lib.ListN.{length, take, drop, get_or, drop_of_length-le}
use lib.Seq.{drop-drop}
use Rattle.g9932.specs.Bits.{weight, num}
use Rattle.g9932.specs.Sizes.{bytes_for, unpack}
use Rattle.g9932.specs.Refusals.{some_one, start_test, frame_test}
use Rattle.g9932.proofs.Words.{num_drop}
use Rattle.g9932.proofs.Packed.{drop_unpack, num_unpack, some_one_append}

doubled : (n : ℕ) → eqb (2 * n) 0 ≡ eqb n 0
doubled n = go (eqb n 0) refl
  where
    go : (b : Bool) → eqb n 0 ≡ b → eqb (2 * n) 0 ≡ b
    go true e = eq-eqb (2 * n) 0 (omega (arith, eqb-true n 0 e))
    go false e = ne_eqb (2 * n) 0 (λ z. eqb-false n 0 e (omega arith))

-- some bit is 1 where the number is not 0
some_one_num : (l : List Bool) → some_one l ≡ not (eqb (num l) 0)
unfolding num weight
some_one_num [] = refl
some_one_num (true ∷ l) = let e = ne_eqb (1 + 2 * num l) 0 (λ z. omega arith) in rw e
some_one_num (false ∷ l) =
    let z : 0 + 2 * num l ≡ 2 * num l = omega arith in
    rw (z, doubled (num l)) (some_one_num l)

-- the bits after the end, bit e, are in the last byte
past_end : (f : List ℕ) (e : ℕ) → length f ≡ (e + 7) / 8 → get_or f (e / 8) 0 < 256 → num (drop e (unpack f)) ≡ get_or f (e / 8) 0 / 2 ^ (e % 8)
unfolding unpack num
past_end f e hl hb =
    let at : 8 * (e / 8) + e % 8 ≡ e = omega arith in
    let g : length f ≤ e / 8 + 1 = omega arith in
    let d : drop (e / 8 + 1) f ≡ [] = drop_of_length-le f g in
    let last : num (unpack (drop (e / 8) f)) ≡ get_or f (e / 8) 0 = rw d at (num_unpack f (e / 8) hb) ∙ omega arith in
    let s : drop e (unpack f) ≡ drop (e % 8) (unpack (drop (e / 8) f)) = rw (← drop_unpack, drop-drop, at) in
    rw (s, num_drop, last)

module _ (start l : ℕ) (f : List ℕ) where
  pub above_refused : start_test start ≡ true → true ≡ frame_test start l f
  unfolding frame_test
  above_refused h = rw h

  module _ (within : start_test start ≡ false) where
    pub length_refused : (length f ≡ bytes_for start l → ⊥) → true ≡ frame_test start l f
    unfolding frame_test
    length_refused h = rw (within, ne_eqb (length f) (bytes_for start l) h)

    module _ (fits : length f ≡ bytes_for start l) {a : ℕ} (before : a ≡ num (take start (unpack f))) where
      pub before_refused : (a ≡ 0 → ⊥) → true ≡ frame_test start l f
      unfolding frame_test
      before_refused h =
          rw (within, eq-eqb (length f) (bytes_for start l) fits, some_one_append, some_one_num (take start (unpack f)), ← before, ne_eqb a 0 h)

      pub after_refused : a ≡ 0 → (i j b : ℕ) → i ≡ (start + l) / 8 → j ≡ (start + l) % 8 → b ≡ get_or f i 0 → b < 256 → not (eqb (b / 2 ^ j) 0) ≡ frame_test start l f
      unfolding frame_test
      after_refused z i j b hi hj hb small =
          let after = past_end f (start + l) fits (rw (← hi, ← hb) small) in
          rw (
            within,
            eq-eqb (length f) (bytes_for start l) fits,
            some_one_append,
            some_one_num (take start (unpack f)),
            ← before,
            eq-eqb a 0 z,
            some_one_num (drop (start + l) (unpack f)),
            after,
            ← hi,
            ← hb,
            hj,
          )
