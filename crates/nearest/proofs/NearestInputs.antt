-- The inputs of nearest reading: coordinates in range, and ROOM of the working buffer beside the other lists'.
use Prim.Native.Nat.{ℕ, suc, ◌+◌, ◌-◌, ◌<◌}
use mathlib.Core.Bool.{Bool, true, false, ◌||◌}
use mathlib.Core.Path.{◌≡◌, refl, ◌∙◌}
use native.Mathlib.Omega.{arith}
use borrow.Author.Tests.{lt-ltb, le-ltb, ltb-true, ltb-false, eq-eqb, ne_eqb}
use lib.Dec.{ltb}
use lib.IntN.{ℤ, pos, negsuc, ◌+ℤ◌}
use lib.Signed.{mag}
use Rattle.g9932.proofs.TwosComplement.{pos_inj}
use Rattle.g9932.proofs.Verdicts.{test_here}
use Rattle.g9932.specs.Answers.{read_inputs}
use Rattle.g9932.specs.Nearest.{out_of_range, nearest_inputs}
use Rattle.g9932.specs.Refusals.{refused, room_test}
use Rattle.g9932.specs.Sizes.{bytes_for}

-- ---- 23

-- a coordinate of sixteen bits, raised by 32,768
pub outside_is : (z : ℤ) (r : ℕ) → mag z < 32768 → pos r ≡ z +ℤ pos 32768 → ltb r 31745 || ltb 33791 r ≡ out_of_range z
outside_is (pos a) r h e =
    let n = pos_inj r (a + 32768) e in
    rw (le-ltb r 31745 (omega arith)) (go n (ltb 1023 a) refl)
  where
    go : r ≡ a + 32768 → (b : Bool) → ltb 1023 a ≡ b → ltb 33791 r ≡ b
    go n true t = let h = ltb-true 1023 a t in lt-ltb 33791 r (omega arith)
    go n false t = let h = ltb-false 1023 a t in le-ltb 33791 r (omega arith)
outside_is (negsuc a) r h e =
    let n = pos_inj r (32768 - suc a) (e ∙ rw (le-ltb 32768 (suc a) (omega arith)) refl) in
    rw (le-ltb 33791 r (omega arith)) (or-false (ltb r 31745) ∙ go n (ltb 1023 (suc a)) refl)
  where
    or-false : (b : Bool) → b || false ≡ b
    or-false true = refl
    or-false false = refl

    go : r ≡ 32768 - suc a → (b : Bool) → ltb 1023 (suc a) ≡ b → ltb r 31745 ≡ b
    go n true t = let k = ltb-true 1023 (suc a) t in lt-ltb r 31745 (omega arith)
    go n false t = let k = ltb-false 1023 (suc a) t in le-ltb r 31745 (omega arith)

-- ---- 10, of the working buffer

-- ROOM where one more list has not its length; else what the others say
module _ (start size nsc bytes x y f w r : ℕ) where
  pub work_room_lem : (w ≡ bytes → ⊥) → refused 10 0 ≡ nearest_inputs start size nsc bytes x y f w r
  unfolding nearest_inputs
  work_room_lem h = test_here 10 _ (rw (ne_eqb w bytes h) (or-true (room_test x nsc || room_test y nsc || room_test f (bytes_for start size))))
    where
      or-true : (b : Bool) → b || true ≡ true
      or-true true = refl
      or-true false = refl

  pub work_fits : w ≡ bytes → read_inputs start size nsc x y f r ≡ nearest_inputs start size nsc bytes x y f w r
  unfolding nearest_inputs read_inputs
  work_fits e = rw (eq-eqb w bytes e, or-false (room_test x nsc || room_test y nsc || room_test f (bytes_for start size))) refl
    where
      or-false : (b : Bool) → b || false ≡ b
      or-false true = refl
      or-false false = refl
