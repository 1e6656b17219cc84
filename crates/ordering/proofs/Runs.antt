-- Laws of `sets`, a run of stores: what is left to write, from here, gives what the whole gives from the start.
use Prim.Native.Nat.{ℕ, suc, ◌+◌, ◌-◌, ◌≤◌}
use Rattle.std.proofs.lemmas.List.{append_assoc, drop-drop}
use mathlib.Core.List.{List, [], ◌∷◌, ◌++◌}
use borrow.Rule.Slice.PartMut.{put_mid}
use mathlib.Core.Path.{◌≡◌, sym, ap, ◌∙◌}
use native.Mathlib.Numerals.{add-one}
use native.Mathlib.Omega.{arith}
use lib.ListN.{length, take, drop, set, replicate, length-append, length-replicate}
use lib.Seq.{sets, sets-eq, take_at}

-- one store more
pub sets_step : (out : List ℕ) (n x : ℕ) {xs ys zs : List ℕ} → xs ≡ x ∷ ys → sets out n xs ≡ zs → sets (set out n x) (n + 1) ys ≡ zs
sets_step out n x e q = rw add-one (sym (ap (sets out n) e) ∙ q)

-- a run still to be written: xs from place n on, as far as `end`, gives `goal`
pub record Left (out : List ℕ) (n : ℕ) (xs : List ℕ) (end : ℕ) (goal : List ℕ) : Type 0 where
  pub fits : n + length xs ≡ end
  pub gives : sets out n xs ≡ goal

-- a store more, and none
module _ {out : List ℕ} {n end : ℕ} {xs ys goal : List ℕ} where
  pub left_step : {after : List ℕ} {x : ℕ} → after ≡ set out n x → xs ≡ x ∷ ys → Left out n xs end goal → Left after (n + 1) ys end goal
  left_step {x = x} w e l = record { fits = omega (arith, l.fits, ap length e); gives = rw w (sets_step out n x e l.gives) }

  pub left_same : xs ≡ ys → Left out n xs end goal → Left out n ys end goal
  left_same e l = rw e at l

-- one run after another
sets_sets : (out xs ys : List ℕ) (n m : ℕ) → m ≡ n + length xs → sets (sets out n xs) m ys ≡ sets out n (xs ++ ys)
sets_sets out [] ys n m e = let q : m ≡ n = omega arith in rw q
sets_sets out (x ∷ xs) ys n m e = sets_sets (set out n x) xs ys (suc n) m (omega arith)

-- what one run, two and three from the start leave there
pub take_sets : (out xs : List ℕ) (n : ℕ) → length xs ≡ n → n ≤ length out → take n (sets out 0 xs) ≡ xs
take_sets out xs n e h = ap (take n) (sets-eq xs out 0 (omega arith)) ∙ take_at xs (drop (0 + length xs) out) n e

module _ (out xs ys : List ℕ) {m n : ℕ} (e : m ≡ length xs) where
  pub take_two : m + length ys ≡ n → n ≤ length out → take n (sets (sets out 0 xs) m ys) ≡ xs ++ ys
  take_two f h = rw (sets_sets out xs ys 0 m (omega arith)) (take_sets out (xs ++ ys) n (simp length-append (omega arith)) h)

  pub take_three : (zs : List ℕ) {k : ℕ} → k ≡ m + length ys → k + length zs ≡ n → n ≤ length out → take n (sets (sets (sets out 0 xs) m ys) k zs) ≡ xs ++ (ys ++ zs)
  take_three zs {k} f g h =
      rw (sets_sets (sets out 0 xs) ys zs m k f, sets_sets out xs (ys ++ zs) 0 m (omega arith))
      (take_sets out (xs ++ (ys ++ zs)) n (simp length-append (omega arith)) h)

-- a part that is filled is a run of stores
pub fill_sets : (out part : List ℕ) (n k v : ℕ) → part ≡ replicate k v → n + k ≤ length out → put_mid n (n + k - n) out part ≡ sets out n (replicate k v)
fill_sets out part n k v e h =
    let m : n + k - n ≡ k = omega arith in
    let l = length-replicate {A = ℕ} k v in
    rw (e, m) (sym (rw (sets-eq (replicate k v) out n (omega arith), l, drop-drop k n out, append_assoc)))
