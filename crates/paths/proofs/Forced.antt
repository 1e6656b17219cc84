-- The last two pairs, where u1 and u2 are forced: one of a state's four next states can be reached, and the sum to it is the least of the four.
use Prim.Native.Nat.{ℕ, zero, suc, ◌+◌, ◌*◌, ◌-◌, ◌/◌, ◌%◌, ◌^◌, ◌≤◌, ◌<◌}
use mathlib.Core.Bool.{Bool, true, false}
use mathlib.Core.List.{List, [], ◌∷◌}
use mathlib.Core.Path.{◌≡◌, refl, subst, ◌∙◌}
use native.Mathlib.Omega.{arith}
use lib.ListN.{get_or}
use Rattle.paths.specs.Survivors.{selected, far, reached, Below}
use Rattle.paths.proofs.Metrics.{four_cases, GroupIs, group_at, group_is}
use Rattle.paths.proofs.Steps.{selected_le}

-- ---- the metrics that can be reached

below_fourth : (a : ℕ) (l : List ℕ) → a ≤ far → Below far l → Below far (a ∷ far ∷ far ∷ far ∷ l)
below_fourth a l h b zero = h
below_fourth a l h b (suc zero) = omega arith
below_fourth a l h b (suc (suc zero)) = omega arith
below_fourth a l h b (suc (suc (suc zero))) = omega arith
below_fourth a l h b (suc (suc (suc (suc k)))) = b k

pub below_reached : (old : List ℕ) (late : Bool) → Below far old → Below far (reached old late)
unfolding reached
below_reached old true h =
    let d = get_or old 12 0 ∷ far ∷ far ∷ far ∷ [] in
    let c = get_or old 8 0 ∷ far ∷ far ∷ far ∷ d in
    let b = get_or old 4 0 ∷ far ∷ far ∷ far ∷ c in
    below_fourth (get_or old 0 0) b (h 0)
    (below_fourth (get_or old 4 0) c (h 4) (below_fourth (get_or old 8 0) d (h 8) (below_fourth (get_or old 12 0) [] (h 12) (λ k. omega arith))))
below_reached old false h = h

-- ---- the least of the four sums

abbrev OneLeft : List ℕ → List ℕ → ℕ → Type 0
OneLeft old edges s = selected old edges true s ≤ far → selected (reached old true) edges false s ≡ selected old edges true s

one_left : (old edges : List ℕ) (n s : ℕ) → n < 4 → s < 4 → OneLeft old edges (4 * n + s)
unfolding selected reached
one_left old edges n s hn hs =
    four_cases (λ (n : ℕ). (s : ℕ) → s < 4 → OneLeft old edges (4 * n + s))
    (four_cases (λ (s : ℕ). OneLeft old edges (0 + s)) (λ h. omega arith) (λ h. omega arith) (λ h. omega arith) (λ h. omega arith))
    (four_cases (λ (s : ℕ). OneLeft old edges (4 + s)) (λ h. omega arith) (λ h. omega arith) (λ h. omega arith) (λ h. omega arith))
    (four_cases (λ (s : ℕ). OneLeft old edges (8 + s)) (λ h. omega arith) (λ h. omega arith) (λ h. omega arith) (λ h. omega arith))
    (four_cases (λ (s : ℕ). OneLeft old edges (12 + s)) (λ h. omega arith) (λ h. omega arith) (λ h. omega arith) (λ h. omega arith)) n hn s hs

module _ (old edges : List ℕ) (h : Below (2 ^ 59) old) (g : Below (2 ^ 59) edges) where
  -- the choice over the metrics that can be reached, as if u1 and u2 were free, is the choice that is meant
  selected_reached : (late : Bool) (s : ℕ) → s < 16 → selected (reached old late) edges false s ≡ selected old edges late s
  unfolding reached
  selected_reached true s k =
      let e : 4 * (s / 4) + s % 4 ≡ s = omega arith in
      subst (OneLeft old edges) e (one_left old edges (s / 4) (s % 4) (omega arith) (omega arith)) (selected_le old edges true s (2 ^ 59) (2 ^ 59) h g)
  selected_reached false s k = refl

  pub group_reached : (late : Bool) (n : ℕ) → n < 4 → GroupIs old edges late n (group_at (reached old late) edges n)
  group_reached late n k =
      let p = group_is (reached old late) edges n k in
      record {
        is_a = p.is_a ∙ selected_reached late (8 * (n / 2) + n) (omega arith);
        is_b = p.is_b ∙ selected_reached late (8 * (1 - n / 2) + n) (omega arith);
        is_c = p.is_c ∙ selected_reached late (8 * (n / 2) + 4 + n) (omega arith);
        is_d = p.is_d ∙ selected_reached late (8 * (1 - n / 2) + 4 + n) (omega arith);
      }
