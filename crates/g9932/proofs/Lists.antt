-- Laws of lists: what stands in a list by rule, the two entries in front of what is left, and the first ones of a mapped list.
use Prim.Native.Nat.{ℕ, zero, suc, ◌+◌, ◌<◌}
use mathlib.Core.List.{List, [], ◌∷◌, map}
use mathlib.Core.Path.{◌≡◌, refl, ap, ◌∙◌}
use native.Mathlib.Numerals.{add-one, add-two}
use native.Mathlib.Omega.{arith}
use lib.ListN.{length, take, drop, get_or}
use lib.Seq.{drop-cons}
use Rattle.g9932.specs.Bits.{values_from}

pub values_at : (f : ℕ → ℕ) (k n j : ℕ) → j < n → get_or (values_from f k n) j 0 ≡ f (k + j)
values_at f k zero j h = absurd (omega arith)
values_at f k (suc n) zero h = ap f (let e : k ≡ k + 0 = omega arith in e)
values_at f k (suc n) (suc j) h = values_at f (suc k) n j (omega arith) ∙ ap f (let e : suc k + j ≡ k + suc j = omega arith in e)

pub table_at : (f : ℕ → ℕ) (n j : ℕ) → j < n → get_or (values_from f 0 n) j 0 ≡ f j
table_at f n j h = values_at f 0 n j h ∙ ap f (let e : 0 + j ≡ j = omega arith in e)

pub drop_two : (l : List ℕ) (i : ℕ) → i + 1 < length l → drop i l ≡ get_or l i 0 ∷ get_or l (i + 1) 0 ∷ drop (i + 2) l
drop_two l i h =
    let a : drop i l ≡ get_or l i 0 ∷ drop (suc i) l = drop-cons l i 0 (omega arith) in
    let b : drop (suc i) l ≡ get_or l (suc i) 0 ∷ drop (suc (suc i)) l = drop-cons l (suc i) 0 (omega arith) in
    rw (add-one, add-two, a, b)

pub map_take : {A B : Type 0} (f : A → B) (k : ℕ) (l : List A) → map f (take k l) ≡ take k (map f l)
map_take f zero l = refl
map_take f (suc k) [] = refl
map_take {B = B} f (suc k) (a ∷ l) = ap (λ (z : List B). f a ∷ z) (map_take f k l)
