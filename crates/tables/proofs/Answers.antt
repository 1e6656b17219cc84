-- Laws of refusals 1 to 6 answered: what is left of the tables where none applies, and the whole answer where one does.
use mathlib.Core.Bool.{false}
use mathlib.Core.List.{List}
use mathlib.Core.Path.{◌≡◌, refl, ◌∙◌}
use Prim.Native.Nat.{ℕ, ◌<◌}
use lib.ListN.{length}
use Rattle.g9932.proofs.Accepted.{accepted_tables}
use Rattle.g9932.proofs.Search.{first_no}
use Rattle.g9932.proofs.Verdicts.{test_none, found_none, number_none, and_refused, and_accepted}
use Rattle.g9932.specs.Bits.{first}
use Rattle.g9932.specs.Refusals.{number_of, place_of, refused, accepted, size_test, tone_test, twice_test, table_verdict, list_verdict}
use Rattle.g9932.specs.Sizes.{tables}
use Rattle.g9932.specs.declared.Mode.TheVariants.{Uncoded}
use Rattle.g9932.specs.declared.Mode.{Mode}
use Rattle.g9932.specs.declared.Refusal.{Refusal}
use Rattle.tables.proofs.Modes.{uncoded_verdict}
use Rattle.tables.specs.Counted.{ListsPass}

-- t without a repeat
lists_once : (b g t : List ℕ) {l : ℕ} → accepted l ≡ list_verdict b g t → (k : ℕ) → k < length t → twice_test t k ≡ false
unfolding list_verdict
lists_once b g t e =
    let p1 = test_none 0 (size_test (length b) (length g) (length t)) _ (number_none e) in
    let p2 = found_none 1 (first (tone_test (length b) t) (length t)) _ p1.1 in
    let p3 = found_none 2 (first (twice_test t) (length t)) _ p2.1 in
    first_no (twice_test t) (length t) p3.0

-- and a bit table whose bits are the tones': in uncoded mode nothing else is refused
pub lists_pass : (b g t : List ℕ) {l : ℕ} → accepted l ≡ list_verdict b g t → ListsPass b t
unfolding table_verdict
lists_pass b g t {l} e =
    let a = accepted_tables (tables Uncoded b g t) (number_none (uncoded_verdict b t refl ∙ and_accepted l e refl)) in
    record { size = a.table_most; below = a.tones_below; once = lists_once b g t e; bits_most = a.bits_most; stray_bits = a.stray_bits }

module _ (m : Mode) (b g t : List ℕ) where
  pub lists_refused : (x : Refusal) → refused (number_of x) (place_of x) ≡ list_verdict b g t → refused (number_of x) (place_of x) ≡ table_verdict (tables m b g t)
  unfolding table_verdict
  lists_refused x e = and_refused x _ e
