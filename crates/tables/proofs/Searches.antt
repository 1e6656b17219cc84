-- The place that `position` finds in a list is the first place at which a test holds.
use Rattle.std.proofs.Common.{◌≡◌, ℕ, ◌≤◌, ◌<◌, Bool, true, false, ltb, cond, List, Some, None, length, get_or, refl, sym, ◌∙◌, arith}
use Rattle.std.specs.List.{position, position_or_len}
use Rattle.std.proofs.lemmas.Bool.{ltb-true, ltb-false}
use Rattle.std.proofs.lemmas.List.Sums.{fails_before_first, passes_at_first}
use Rattle.g9932.specs.Bits.{first}
use Rattle.g9932.proofs.Search.{first_all, first_at, first_ext}

module _ {X : Type 0} (p : X → Bool) (xs : List X) (d : X) where
  abbrev at : ℕ
  at = position_or_len p xs

  abbrev test : ℕ → Bool
  test k = p (get_or xs k d)

  position_first : position p xs ≡ first test (length xs)
  position_first = go (ltb at (length xs)) refl
    where
      go : (b : Bool) → ltb at (length xs) ≡ b → cond b (Some at) None ≡ first test (length xs)
      go true e =
          let h : at < length xs = ltb-true at (length xs) e in
          first_at test at (length xs) (first_all test at (λ k l. fails_before_first p xs k d l)) (passes_at_first p xs d h) h
      go false e =
          let h : length xs ≤ at = ltb-false at (length xs) e in
          sym (first_all test (length xs) (λ k l. fails_before_first p xs k d (omega arith)))

  -- where the test of each place is that of what stands there
  pub position_first_lem : (q : ℕ → Bool) (n : ℕ) → length xs ≡ n → ((k : ℕ) → k < n → test k ≡ q k) → position p xs ≡ first q n
  position_first_lem q n e h = position_first ∙ rw e (first_ext test q n h)
