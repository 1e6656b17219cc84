-- Laws of the checks: one scan for three tests, and refusals 1 to 6 from what the searches find.
use Rattle.std.specs.Prelude.{None, Some}
use Prim.Native.Nat.{ℕ, ◌<◌}
use mathlib.Core.Bool.{Bool, true, false, ◌||◌}
use mathlib.Core.List.{List}
use mathlib.Core.Path.{◌≡◌, refl}
use lib.ListN.{length}
use Rattle.g9932.specs.Bits.{first}
use Rattle.g9932.specs.Refusals.{Verdict, refused, accepted, size_test, tone_test, twice_test, bits_test, stray_test, gain_test, index_verdict, list_verdict}
use Rattle.g9932.proofs.Identities.{or-false}
use Rattle.g9932.proofs.Search.{first_no, first_all}
use Rattle.g9932.proofs.Verdicts.{test_here, test_past, found_here, found_past}
use Rattle.tables.specs.Checks.{any_below, index_fault}
use Rattle.tables.proofs.Scans.{any_nothing}

-- where neither of two tests holds anywhere
module _ (p q : ℕ → Bool) (n : ℕ) where
  or_nothing : first (λ k. p k || q k) n ≡ None → (first p n ≡ None) × (first q n ≡ None)
  or_nothing e =
      let f : (k : ℕ) → k < n → p k || q k ≡ false = first_no (λ k. p k || q k) n e in
      (first_all p n (λ k l. (or-false (p k) (q k) (f k l)).0), first_all q n (λ k l. (or-false (p k) (q k) (f k l)).1))

-- each refusal, from the tests that it comes after and the search that finds it: 1 to 3, and what is left to the indices,
module _ (b g t : List ℕ) where
  pub refused_size : size_test (length b) (length g) (length t) ≡ true → refused 1 0 ≡ list_verdict b g t
  unfolding list_verdict
  refused_size e = test_here 1 _ e

  module _ (sized : size_test (length b) (length g) (length t) ≡ false) where
    pub refused_tone : {k : ℕ} → first (tone_test (length b) t) (length t) ≡ Some k → refused 2 k ≡ list_verdict b g t
    unfolding list_verdict
    refused_tone e = test_past 1 sized (found_here 2 _ e)

    module _ (tones : first (tone_test (length b) t) (length t) ≡ None) where
      pub refused_twice : {k : ℕ} → first (twice_test t) (length t) ≡ Some k → refused 3 k ≡ list_verdict b g t
      unfolding list_verdict
      refused_twice e = test_past 1 sized (found_past 2 tones (found_here 3 _ e))

      pub past_tones : {x : Verdict} → first (twice_test t) (length t) ≡ None → x ≡ index_verdict b g t → x ≡ list_verdict b g t
      unfolding list_verdict
      past_tones n q = test_past 1 sized (found_past 2 tones (found_past 3 n q))

  -- and 4 to 6
  pub indices_passed : any_below (index_fault b g t) (length b) ≡ false → accepted 0 ≡ index_verdict b g t
  indices_passed e =
      let w = or_nothing (bits_test b) (λ k. stray_test b g t k || gain_test b g k) (length b) (any_nothing (index_fault b g t) (length b) e) in
      let v = or_nothing (stray_test b g t) (gain_test b g) (length b) w.1 in
      found_past 4 w.0 (found_past 5 v.0 (found_past 6 v.1 refl))
