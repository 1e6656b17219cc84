-- Points as two lists, X and Y.
use Prim.Native.Nat.{ℕ, zero, suc, ◌<◌}
use mathlib.Core.List.{List, [], ◌∷◌, map}
use mathlib.Core.Path.{◌≡◌, refl, ap}
use native.Mathlib.Omega.{arith}
use lib.IntN.{ℤ, pos}
use lib.ListN.{length, get_or}
use Rattle.g9932.specs.Sizes.{Point, point, origin, points}

pub points_both : (q : List Point) → points (map (λ p. p.px) q) (map (λ p. p.py) q) ≡ q
unfolding points
points_both [] = refl
points_both (p ∷ q) = ap (λ (l : List Point). p ∷ l) (points_both q)

pub points_xs : (X Y : List ℤ) → length X ≡ length Y → map (λ p. p.px) (points X Y) ≡ X
unfolding points
points_xs [] Y h = refl
points_xs (x ∷ X) [] h = absurd (omega arith)
points_xs (x ∷ X) (y ∷ Y) h = ap (λ (l : List ℤ). x ∷ l) (points_xs X Y (omega arith))

pub points_ys : (X Y : List ℤ) → length X ≡ length Y → map (λ p. p.py) (points X Y) ≡ Y
unfolding points
points_ys [] [] h = refl
points_ys [] (y ∷ Y) h = absurd (omega arith)
points_ys (x ∷ X) [] h = absurd (omega arith)
points_ys (x ∷ X) (y ∷ Y) h = ap (λ (l : List ℤ). y ∷ l) (points_ys X Y (omega arith))

pub length_points : (X Y : List ℤ) → length X ≡ length Y → length (points X Y) ≡ length X
unfolding points
length_points [] Y h = refl
length_points (x ∷ X) [] h = absurd (omega arith)
length_points (x ∷ X) (y ∷ Y) h = ap suc (length_points X Y (omega arith))

-- the point at a place of two lists
pub point_at_lem : (X Y : List ℤ) (k : ℕ) → k < length X → length Y ≡ length X → get_or (points X Y) k origin ≡ point (get_or X k (pos 0)) (get_or Y k (pos 0))
unfolding points
point_at_lem [] Y k h l = absurd (omega arith)
point_at_lem (x ∷ X) [] k h l = absurd (omega arith)
point_at_lem (x ∷ X) (y ∷ Y) zero h l = refl
point_at_lem (x ∷ X) (y ∷ Y) (suc k) h l = point_at_lem X Y k (omega arith) (omega arith)
