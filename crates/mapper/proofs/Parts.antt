-- A part of a list, from i up to e, and the list with other elements in its place.
use Prim.Native.Nat.{ℕ, ◌+◌, ◌-◌, ◌≤◌, ◌<◌}
use native.Mathlib.Omega.{arith}
use mathlib.Core.List.{List, ◌++◌}
use mathlib.Core.Path.{◌≡◌, ◌∙◌}
use borrow.Rule.Slice.PartMut.{put_mid, post_of}
use lib.ListN.{length, take, drop, get_or, length-drop, get_or-append}
use lib.Seq.{length-take-le, get_or-take, get_or-drop, get_or-append-add}

abbrev pub part : {A : Type 0} → List A → ℕ → ℕ → List A
part l i e = take (e - i) (drop i l)

module _ {A : Type 0} (l : List A) (i : ℕ) where
  pub length_part : (e : ℕ) → e ≤ length l → length (part l i e) ≡ e - i
  length_part e h = length-take-le (e - i) (drop i l) (omega (arith, length-drop i l))

  pub part_at : (e j : ℕ) (d : A) → j < e - i → get_or (part l i e) j d ≡ get_or l (i + j) d
  part_at e j d h = get_or-take (e - i) (drop i l) j d h ∙ get_or-drop i l j d

  module _ (k : ℕ) (p : List A) (h : i ≤ length l) where
    -- what stands before the part is as it was
    pub put_before : (j : ℕ) (d : A) → j < i → get_or (put_mid i k l p) j d ≡ get_or l j d
    put_before j d s = get_or-append (take i l) _ d j (rw (length-take-le i l h) s) ∙ get_or-take i l j d s

    pub put_inside : (j : ℕ) (d : A) → j < length p → get_or (put_mid i k l p) (i + j) d ≡ get_or p j d
    put_inside j d s = rw (length-take-le i l h) at (get_or-append-add (take i l) (p ++ post_of i k l) j d) ∙ get_or-append p (post_of i k l) d j s
