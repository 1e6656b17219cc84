-- One tone: a label found for a point.
use Rattle.std.specs.Prelude.{Option, None, Some}
use Rattle.std.specs.Option.{option_map, is_some}
use Rattle.g9932.proofs.Search.{found_not}
use Prim.Native.Nat.{ℕ, ◌^◌, ◌<◌}
use mathlib.Core.Bool.{Bool, true, false}
use mathlib.Core.List.{List}
use mathlib.Core.Path.{◌≡◌, refl, sym, ap, ◌∙◌}
use borrow.Author.Tests.{eqb-true, eqb-false}
use lib.Dec.{eqb}
use lib.ListN.{length}
use Rattle.g9932.proofs.Constellations.{same_point_self, differs, point_inj}
use Rattle.g9932.proofs.Labels.{label_back}
use Rattle.g9932.proofs.Words.{num_lt, num_inj, bits_num}
use Rattle.g9932.specs.Bits.{bits, num}
use Rattle.g9932.specs.Filler.{drawn}
use Rattle.g9932.specs.Points.{point_of, same_point, label_of, is_label, label_bits}
use Rattle.g9932.specs.Sizes.{Point}

-- a label that is found is that of the constellation's word
pub found_in : (o : Option (List Bool)) (l : ℕ) → Some l ≡ option_map num o → (is_label o ≡ true) × (l ≡ num (label_bits o))
found_in (Some v) l e = (refl, cc)
found_in None l e = absurd (found_not e)

found_some : (o : Option (List Bool)) → is_some (option_map num o) ≡ is_label o
found_some (Some v) = refl
found_some None = refl

-- whether one is found
pub found_label : (o : Option ℕ) (p : Option (List Bool)) → o ≡ option_map num p → is_some o ≡ is_label p
found_label o p e = ap is_some e ∙ found_some p

-- the label found is the tone's bits
pub label_read : (b : ℕ) (p : Point) (l : ℕ) → Some l ≡ option_map num (label_of b p) → (bits b l ≡ label_bits (label_of b p)) × (l < 2 ^ b)
label_read b p l is =
    let f = found_in (label_of b p) l is in
    let v : List Bool = label_bits (label_of b p) in
    let n : length v ≡ b = (label_back b p f.0).0 in
    (rw f.1 (ap (λ (m : ℕ). bits m (num v)) (sym n) ∙ bits_num v), rw f.1 (rw n at (num_lt v)))

-- a point is the filler's where its label is
pub filler_read : (r label : ℕ) (p : Point) (l : ℕ) → Some l ≡ option_map num (label_of 2 p) → label ≡ num (drawn 2 r) → eqb l label ≡ same_point p (point_of 2 (drawn 2 r))
filler_read r label p l is e =
    let f = found_in (label_of 2 p) l is in
    let v : List Bool = label_bits (label_of 2 p) in
    let k = label_back 2 p f.0 in
    test v k.0 k.1 f.1 (eqb (num v) (num (drawn 2 r))) refl
  where
    test : (v : List Bool) → length v ≡ 2 → point_of 2 v ≡ p → l ≡ num v → (c : Bool) → eqb (num v) (num (drawn 2 r)) ≡ c
        → eqb l label ≡ same_point p (point_of 2 (drawn 2 r))
    test v n q f true t =
        let i : v ≡ drawn 2 r = num_inj v (drawn 2 r) n (eqb-true (num v) (num (drawn 2 r)) t) in
        rw (f, e, t) (sym (rw (← q, i) (same_point_self (point_of 2 (drawn 2 r)))))
    test v n q f false t =
        rw (f, e, t)
        (sym (differs p (point_of 2 (drawn 2 r))
        (λ h. eqb-false (num v) (num (drawn 2 r)) t (ap num (point_inj 2 v (drawn 2 r) n refl (q ∙ h))))))
