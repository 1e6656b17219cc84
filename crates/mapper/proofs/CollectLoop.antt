-- Labels collected: the bits put so far and those of the labels left are all bits.
use Prim.Native.Nat.{ℕ, ◌+◌, ◌^◌, ◌≤◌, ◌<◌}
use native.Mathlib.Omega.{arith}
use mathlib.Core.List.{List, ◌++◌, append_assoc, append-nil}
use mathlib.Core.Path.{◌≡◌, refl, ◌∙◌}
use lib.ListN.{length, drop, drop_of_length-le}
use Rattle.frame.proofs.Labels.{labels_drop, length_at, at_get}
use Rattle.frame.specs.Labels.{bits_of_labels, labels_at}
use Rattle.frame.specs.Written.{written, Waits, bits_put, Put}
use Rattle.frame.specs.declared.BitWriter.{BitWriter}
use Rattle.g9932.proofs.Words.{length_bits}
use Rattle.g9932.specs.Bits.{bits}
use Rattle.g9932.specs.Order.{sum}
use Rattle.g9932.specs.Sizes.{entry}
use Rattle.mapper.specs.Reading.{CollectNeeds, CollectsLabels}
use Rattle.mapper.proofs.CutLoop.{sum_drop}

pub record Collecting (w₀ : BitWriter) (es ps ls frame₀ frame : List ℕ) (w : BitWriter) (j : ℕ) : Type 0 where
  pub inside : j ≤ length es
  pub frame_length : length frame ≡ length frame₀
  pub whole : written w frame ++ bits_of_labels (drop j es) (drop j (labels_at ps ls)) ≡ written w₀ frame₀ ++ bits_of_labels es (labels_at ps ls)
  pub waits : Waits w
  pub counted : bits_put w + sum (drop j es) ≡ bits_put w₀ + sum es

module _ {w₀ : BitWriter} {es ps ls frame₀ : List ℕ} (needs : CollectNeeds w₀ es ps ls frame₀) where
  pub collect_start : Collecting w₀ es ps ls frame₀ frame₀ w₀ 0
  collect_start = record { inside = omega arith; frame_length = refl; whole = refl; waits = needs.waits; counted = refl }

  module _ {frame : List ℕ} {w : BitWriter} {j : ℕ} (g : Collecting w₀ es ps ls frame₀ frame w j) where
    pub collect_end : length es ≤ j → CollectsLabels w₀ es ps ls frame₀ w frame
    collect_end h =
        let none = drop_of_length-le es h in
        record {
          whole = rw (none, append-nil) at g.whole;
          waits = g.waits;
          counted = omega (arith, rw none at g.counted);
        }

    -- one label more
    module _ (h : j < length es) where
      abbrev next : ℕ
      next = entry ls (entry ps j)

      here : j < length ps
      here = rw needs.same h

      pub place_inside : entry ps j < length ls
      place_inside = needs.places.below j here

      pub put_needs : (entry es j ≤ 32) × (next < 2 ^ entry es j) × (w.next + 8 ≤ length frame) × Waits w
      put_needs = (
        omega (arith, needs.counts j),
        rw (at_get ps ls j here) at (needs.within j h),
        omega (arith, g.counted, g.frame_length, needs.bytes, sum_drop es j h),
        g.waits,
      )

      pub collect_step : (v : BitWriter) (after : List ℕ) → length after ≡ length frame → Put w frame (bits (entry es j) next) v after
          → Collecting w₀ es ps ls frame₀ after v (j + 1)
      collect_step v after same puts =
          let there : j < length (labels_at ps ls) = rw (length_at ps ls) here in
          let d = rw (at_get ps ls j here) at (labels_drop es (labels_at ps ls) j h there) in
          record {
            inside = omega arith;
            frame_length = same ∙ g.frame_length;
            whole = rw (puts.holds, append_assoc, ← d) g.whole;
            waits = puts.waits;
            counted = omega (arith, puts.counted, g.counted, sum_drop es j h, length_bits (entry es j) next);
          }
