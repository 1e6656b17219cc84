-- 23 RANGE in a loop over the places.
use Rattle.std.specs.Prelude.{None}
use Prim.Native.Nat.{ℕ, ◌+◌, ◌<◌}
use mathlib.Core.Bool.{Bool, false, ◌||◌}
use mathlib.Core.List.{List}
use mathlib.Core.Path.{◌≡◌, sym, ap, ◌∙◌}
use mir.Syntax.{w16}
use mir.Val.{SFits, to_z, of_z}
use mir.ValLaws.{to_z-of_z}
use lib.IntN.{ℤ, pos}
use lib.ListN.{length, get_or}
use Rattle.g9932.proofs.Identities.{or-false}
use Rattle.g9932.proofs.Search.{first_more}
use Rattle.g9932.specs.Bits.{first}
use Rattle.g9932.specs.Nearest.{out_of_range, range_test}
use Rattle.g9932.specs.Sizes.{Point, points}
use Rattle.g9932.proofs.PointLists.{point_at_lem}

-- what the code tests at a place is the rule's test there
pub range_tested : (xs ys : List ℤ) (i : ℕ) → i < length xs → length ys ≡ length xs
    → {a b : Bool} → a ≡ out_of_range (to_z w16 (of_z w16 (get_or xs i (pos 0)))) → b ≡ out_of_range (to_z w16 (of_z w16 (get_or ys i (pos 0))))
    → SFits w16 (get_or xs i (pos 0)) → SFits w16 (get_or ys i (pos 0)) → a || b ≡ range_test (points xs ys) i
range_tested xs ys i h n ea eb fx fy =
    let ex = ea ∙ ap out_of_range (to_z-of_z w16 (get_or xs i (pos 0)) fx) in
    let ey = eb ∙ ap out_of_range (to_z-of_z w16 (get_or ys i (pos 0)) fy) in
    (λ z. ex z || ey z) ∙ ap (λ (p : Point). out_of_range p.px || out_of_range p.py) (sym (point_at_lem xs ys i h n))

-- a search that goes on to its end, and remembers in `any` whether its test held somewhere
pub any_more : (p : ℕ → Bool) (i : ℕ) (any : Bool) {here : Bool} → (any ≡ false → first p i ≡ None) → here ≡ p i → any || here ≡ false
    → first p (i + 1) ≡ None
any_more p i any {here} none is e = let both = or-false any here e in first_more p i (none both.0) (sym is ∙ both.1)
