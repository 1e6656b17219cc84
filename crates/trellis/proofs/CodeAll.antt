-- All pairs of the entries: with a 0 in front where their count is odd.
use mathlib.Core.Path.{◌≡◌, ◌∙◌}
use mathlib.Core.Bool.{Bool, false}
use mathlib.Core.List.{List}
use Prim.Native.Nat.{ℕ, ◌+◌, ◌*◌, ◌%◌, ◌≤◌, ◌<◌}
use native.Mathlib.Omega.{arith}
use lib.ListN.{length, take, drop, get_or, set, length-set}
use lib.Seq.{drop-drop}
use Rattle.frame.proofs.Labels.{labels_set, within_set}
use Rattle.frame.specs.Labels.{bits_of_labels}
use Rattle.g9932.specs.Bits.{bits}
use Rattle.g9932.specs.Order.{pair, in_twos}
use Rattle.g9932.specs.Sizes.{unpack, most_bytes}
use Rattle.g9932.specs.Trellis.{taken, sent_bits, zero_state}
use Rattle.trellis.specs.Coding.{coded_word, first_coder, CodesPair, CodeNeeds, CodesFrom, CodesFrame, FrameNeeds}
use Rattle.trellis.specs.declared.Coder.{Coder}
use Rattle.trellis.specs.declared.PairCode.{PairCode}
use Rattle.trellis.proofs.CodeLoop.{encode_step}
use Rattle.trellis.proofs.Entries.{whole_pairs, padded_pairs, not_forced, padded_taken}

module _ (frame : List ℕ) (start : ℕ) (es labels : List ℕ) (needs : FrameNeeds frame start es) (same : length labels ≡ length es) where
  -- an even count
  module _ (even : length es % 2 ≡ 1 → ⊥) where
    pub even_needs : CodeNeeds (first_coder start) es 0 frame labels
    even_needs =
        record {
          wide = needs.wide;
          many = needs.many;
          inside = omega arith;
          even = omega (arith, even);
          bits = rw (← (whole_pairs es even)) (omega (arith, needs.bits));
          small = needs.small;
          labels_fit = omega (arith, same);
          within = λ k h. absurd (omega arith);
        }

    pub even_coded : (after : List ℕ) → CodesFrom (first_coder start) es 0 frame labels after → CodesFrame frame start es after
    even_coded after c = record { whole = c.whole ∙ rw (whole_pairs es even); within = c.within }

  -- an odd count: the first pair has x = 0
  module _ (y : ℕ) (odd : length es % 2 ≡ 1) (hy : y ≡ get_or es 0 0) where
    pub first_needs : (2 ≤ y) × (y ≤ 15) × (start + y ≤ 8 * length frame + 1) × (length frame ≤ most_bytes)
    first_needs =
        let a = needs.wide 0 (omega (arith, needs.enough)) in
        let t = padded_taken es y needs.enough odd hy in
        let b = needs.bits in
        (rw hy a.0, rw hy a.1, omega arith, needs.small)

    module _ (p : PairCode Coder) (first : CodesPair (first_coder start) false (pair 0 y) frame p) where
      here : 0 < length labels
      here = omega (arith, needs.enough, same)

      pub odd_needs : CodeNeeds p.next es 1 frame (set labels 0 p.w)
      odd_needs =
          let t = padded_taken es y needs.enough odd hy in
          record {
            wide = needs.wide;
            many = needs.many;
            inside = omega (arith, needs.enough);
            even = omega (arith, needs.enough);
            bits = rw first.at (omega (arith, needs.bits));
            small = needs.small;
            labels_fit = rw (length-set labels 0 p.w) (omega (arith, same));
            within = within_set es labels 0 p.w here (λ k h. absurd (omega arith)) (rw (← hy) first.w_small);
          }

      pub odd_coded : (after : List ℕ) → CodesFrom p.next es 1 frame (set labels 0 p.w) after → CodesFrame frame start es after
      unfolding bits
      odd_coded after g =
          let f : List Bool = drop start (unpack frame) in
          let n : bits_of_labels (take 1 es) (take 1 (set labels 0 p.w)) ≡ sent_bits 0 (coded_word (first_coder start) false (pair 0 y) frame) =
          labels_set es labels 0 p.w (omega (arith, needs.enough)) here ∙ rw (← hy) first.sends in
          let later = drop-drop (taken false (pair 0 y)) start (unpack frame) in
          let step = encode_step false zero_state (pair 0 y) (in_twos (drop 1 es)) f (not_forced es needs.enough odd) in
          record {
            whole =
                g.whole ∙ rw (n, padded_pairs es y needs.enough odd hy, first.state, first.at, ← later, step);
            within = g.within;
          }
