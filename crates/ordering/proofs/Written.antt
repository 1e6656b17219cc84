-- Laws of t' and b' written in runs of stores.
use Prim.Native.Nat.{ℕ, ◌-◌, ◌/◌, ◌≤◌}
use mathlib.Core.List.{List}
use mathlib.Core.Path.{◌≡◌, sym, ap, ◌∙◌}
use native.Mathlib.Omega.{arith}
use lib.Dec.{leb}
use lib.ListN.{length, take, replicate, length-replicate}
use lib.Seq.{sets}
use Rattle.g9932.specs.Order.{bits_of, one_bit, filter, singles, others, reordered_tones, reordered_bits}
use Rattle.g9932.specs.declared.Mode.TheVariants.{Coded}
use Rattle.g9932.proofs.Counts.{length_parts}
use Rattle.g9932.proofs.Reordering.{entries_law, entries_fit_lem}
use Rattle.ordering.specs.Ordered.{CodedNeeds}
use Rattle.ordering.proofs.Runs.{take_two, take_three}

-- t' and b', written in runs
module _ (b t : List ℕ) where
  pub tones_written : (order : List ℕ) {after : List ℕ} {m : ℕ} → m ≡ length (others b t) → length t ≤ length order → after ≡ sets (sets order 0 (others b t)) m (singles b t)
      → take (length t) after ≡ reordered_tones Coded b t
  unfolding reordered_tones
  tones_written order e fits q =
      ap (take (length t)) q ∙ take_two order (others b t) (singles b t) e (omega (arith, length_parts (one_bit b) t)) fits

  pub bits_written : (e0 : List ℕ) {e1 e2 e3 : List ℕ} {one zeros : ℕ} → CodedNeeds b t one zeros → length t ≤ length e0
      → e1 ≡ sets e0 0 (replicate zeros 0) → e2 ≡ sets e1 zeros (filter (leb 2) (bits_of b t)) → e3 ≡ sets e2 (length t - one / 2) (replicate (one / 2) 2)
      → take (length t) e3 ≡ reordered_bits Coded b t
  unfolding reordered_bits
  bits_written e0 {one = one} {zeros = zeros} k fits q1 q2 q3 =
      let f = entries_fit_lem b t k.even in
      let z = length-replicate {A = ℕ} zeros 0 in
      let h = length-replicate {A = ℕ} (one / 2) 2 in
      rw (q3, q2, q1, entries_law b t, ← k.zeros_is, ← k.ones_is)
      (take_three e0 (replicate zeros 0) (filter (leb 2) (bits_of b t)) (sym z) (replicate (one / 2) 2) (omega arith) (omega arith) fits)
