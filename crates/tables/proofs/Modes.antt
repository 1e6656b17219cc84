-- Laws of refusals 7 and 8: neither applies uncoded; coded, the counts decide both, and L.
use mathlib.Core.Bool.{false}
use mathlib.Core.List.{List}
use mathlib.Core.Path.{◌≡◌, refl, sym, ap, ◌∙◌}
use Prim.Native.Nat.{ℕ, ◌+◌, ◌-◌, ◌/◌, ◌%◌, ◌<◌, ◌≤◌}
use lib.Dec.{ltb}
use lib.ListN.{length}
use borrow.Author.Tests.{eq-eqb, ne_eqb, lt-ltb, le-ltb}
use native.Mathlib.Omega.{arith}
use Rattle.g9932.proofs.Formed.{is_one_even, formed_size, formed_pairs_of, length_pairs_of, total_pairs_of}
use Rattle.g9932.proofs.Reordering.{entries_fit_lem, sum_entries, length_entries, all_two_entries, nonzero_entries}
use Rattle.g9932.proofs.Verdicts.{test_here, test_past}
use Rattle.g9932.specs.Order.{sum, count, is_one, bits_of, ones, entry_count, entries, pairs_of, reordered_bits, frame_size}
use Rattle.g9932.specs.Refusals.{refused, accepted, mode_verdict}
use Rattle.g9932.specs.declared.Mode.TheVariants.{Uncoded, Coded}
use Rattle.tables.specs.Counted.{CountsAre}
use Rattle.tables.specs.declared.Counts.{Counts}

pub uncoded_verdict : (b t : List ℕ) {l : ℕ} → l ≡ sum (bits_of b t) → accepted l ≡ mode_verdict Uncoded b t
unfolding mode_verdict frame_size
uncoded_verdict b t e = test_past 7 refl (test_past 8 refl (ap accepted e))

-- coded, from the counts of the tones
module _ {b t : List ℕ} {c : Counts} (k : CountsAre c b t) where
  pub coded_odd : c.ones % 2 ≡ 1 → refused 7 0 ≡ mode_verdict Coded b t
  unfolding mode_verdict
  coded_odd e = test_here 7 _ (ap (λ (n : ℕ). is_one (n % 2)) (sym k.ones_is) ∙ eq-eqb _ _ e)

  module _ (odd : c.ones % 2 ≡ 1 → ⊥) where
    not_odd : is_one (ones b t % 2) ≡ false
    not_odd = ap (λ (n : ℕ). is_one (n % 2)) (sym k.ones_is) ∙ ne_eqb _ _ odd

    coded_even : ones b t % 2 ≡ 0
    coded_even = is_one_even (ones b t) not_odd

    -- N, from the counts; it is the number of entries that are not 0
    coded_count : c.loaded - c.ones / 2 ≡ entry_count b t
    coded_count = omega (arith, k.loaded_is, k.ones_is)

    pub half_loaded_lem : c.ones / 2 ≤ c.loaded
    half_loaded_lem = omega (arith, (entries_fit_lem b t coded_even).half_loaded, k.loaded_is, k.ones_is)

    pub coded_within : c.loaded - c.ones / 2 ≤ length t
    coded_within = omega (arith, (entries_fit_lem b t coded_even).within, coded_count)

    counted : count (ltb 0) (reordered_bits Coded b t) ≡ c.loaded - c.ones / 2
    counted = nonzero_entries b t ∙ length_entries b t coded_even ∙ sym coded_count

    pub coded_few : c.loaded - c.ones / 2 < 4 → refused 8 0 ≡ mode_verdict Coded b t
    unfolding mode_verdict
    coded_few h = test_past 7 not_odd (test_here 8 _ (ap (λ (n : ℕ). ltb n 4) counted ∙ lt-ltb _ _ h))

    module _ (some : 4 ≤ c.loaded - c.ones / 2) where
      pub coded_done : accepted (c.sum - (c.loaded - c.ones / 2 + 1) / 2 - 4) ≡ mode_verdict Coded b t
      unfolding mode_verdict frame_size
      coded_done =
          test_past 7 not_odd
          (test_past 8 (ap (λ (n : ℕ). ltb n 4) counted ∙ le-ltb _ _ some)
          (ap (λ (s : ℕ). accepted (s - (c.loaded - c.ones / 2 + 1) / 2 - 4)) k.sum_is
          ∙ ap (λ (n : ℕ). accepted (sum (bits_of b t) - (n + 1) / 2 - 4)) coded_count))

      -- and P + 4 bits are there to take from the sum: the pairs send them and do not take them
      pub coded_fits : (c.loaded - c.ones / 2 + 1) / 2 + 4 ≤ c.sum
      coded_fits =
          let n = length_entries b t coded_even in
          let p = length_pairs_of (entries b t) in
          let w = total_pairs_of (entries b t) in
          let s = sum_entries b t coded_even in
          let f = formed_size (pairs_of (entries b t)) (formed_pairs_of (entries b t) (all_two_entries b t) (omega (arith, coded_count))) in
          omega (arith, coded_count, k.sum_is)
