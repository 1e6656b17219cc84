-- A frame cut into labels: those cut so far and the bits left are the bits from `start` on.
use mathlib.Core.Bool.{Bool}
use mathlib.Core.List.{List, ◌++◌, append_assoc, append-nil}
use mathlib.Core.Path.{◌≡◌, refl, ◌∙◌}
use Prim.Native.Nat.{ℕ, ◌+◌, ◌*◌, ◌≤◌, ◌<◌}
use lib.ListN.{length, take, drop, set, length-set, length-drop, drop_of_length-le}
use lib.Seq.{drop-cons, take_all, length-take-le, drop-drop, take-add}
use native.Mathlib.Numerals.{add-one}
use native.Mathlib.Omega.{arith}
use Rattle.frame.proofs.Labels.{labels_set, within_set, length_at, at_set}
use Rattle.frame.specs.Labels.{bits_of_labels, Within, labels_at}
use Rattle.g9932.proofs.Packed.{length_unpack}
use Rattle.g9932.proofs.Words.{bits_num, num_take_lt}
use Rattle.g9932.specs.Bits.{bits, num}
use Rattle.g9932.specs.Order.{sum}
use Rattle.g9932.specs.Sizes.{entry, unpack}
use Rattle.mapper.specs.Writing.{CutNeeds, CutsLabels}

-- the count at j, and those after it
pub sum_drop : (es : List ℕ) (j : ℕ) → j < length es → sum (drop j es) ≡ entry es j + sum (drop (j + 1) es)
sum_drop es j h = rw (add-one, drop-cons es j 0 h)

pub record Cutting (frame : List ℕ) (start : ℕ) (es ps ls₀ ls : List ℕ) (at j : ℕ) : Type 0 where
  pub inside : j ≤ length es
  pub labels_length : length ls ≡ length ls₀
  pub left : at + sum (drop j es) ≡ start + sum es
  pub whole : bits_of_labels (take j es) (take j (labels_at ps ls)) ++ take (sum (drop j es)) (drop at (unpack frame)) ≡ take (sum es) (drop start (unpack frame))
  pub within : Within es (labels_at ps ls) j

pub cut_start : {frame : List ℕ} {start : ℕ} {es ps ls₀ : List ℕ} → Cutting frame start es ps ls₀ ls₀ start 0
cut_start = record { inside = omega arith; labels_length = refl; left = refl; whole = refl; within = λ k h. absurd (omega arith) }

module _ {frame : List ℕ} {start : ℕ} {es ps ls₀ : List ℕ} (needs : CutNeeds frame start es ps ls₀)
    {ls : List ℕ} {at j : ℕ} (g : Cutting frame start es ps ls₀ ls at j) where
  pub cut_end : length es ≤ j → CutsLabels frame start es ps ls
  cut_end h =
      let none = drop_of_length-le es h in
      let n = length_at ps ls in
      let same = needs.same in
      record {
        whole = rw (none, take_all j es h, take_all j (labels_at ps ls) (omega arith), append-nil) at g.whole;
        within = λ k l. g.within k (omega arith);
      }

  -- one label more
  module _ (h : j < length es) where
    abbrev next : List Bool
    next = take (entry es j) (drop at (unpack frame))

    pub next_inside : at + entry es j ≤ 8 * length frame
    next_inside = omega (arith, g.left, sum_drop es j h, needs.bits)

    pub place_inside : entry ps j < length ls
    place_inside = rw g.labels_length (needs.places.below j (omega (arith, needs.same)))

    next_bits : bits (entry es j) (num next) ≡ next
    next_bits =
        let d = drop at (unpack frame) in
        let long : entry es j ≤ length d = omega (arith, length-drop at (unpack frame), length_unpack frame, next_inside) in
        rw (length-take-le (entry es j) d long) at (bits_num next)

    pub cut_step : Cutting frame start es ps ls₀ (set ls (entry ps j) (num next)) (at + entry es j) (j + 1)
    cut_step =
        let e = entry es j in
        let rest = sum (drop (j + 1) es) in
        let old = labels_at ps ls in
        let there : j < length old = rw (length_at ps ls, needs.same) h in
        let stored = at_set ps ls j (num next) (rw g.labels_length needs.places) (rw needs.same h) in
        let bits_left : take (sum (drop j es)) (drop at (unpack frame)) ≡ next ++ take rest (drop (at + e) (unpack frame)) =
        rw (sum_drop es j h, take-add e rest (drop at (unpack frame)), drop-drop e at (unpack frame)) in
        record {
          inside = omega arith;
          labels_length = length-set ls (entry ps j) (num next) ∙ g.labels_length;
          left = omega (arith, g.left, sum_drop es j h);
          whole = rw (stored, labels_set es old j (num next) h there, next_bits, append_assoc, ← bits_left) g.whole;
          within = rw stored (within_set es old j (num next) there g.within (num_take_lt e (drop at (unpack frame))));
        }
