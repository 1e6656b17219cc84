-- `ordering::order::write_coded` meets its contract: two runs of stores fill the front of the array for t', and three that of the
-- array for b'.
use Prim.Native.Nat.{ℕ, ◌-◌, ◌≤◌}
use mathlib.Core.List.{List}
use mathlib.Core.Path.{◌≡◌, ap, ◌∙◌}
use lib.Seq.{sets}
use lib.ListN.{length}
use native.Mathlib.Omega.{arith}
use Rattle.ordering.proofs.Written.{tones_written, bits_written}
use Rattle.g9932.proofs.Reordering.{Fits, entries_fit_lem}
use Rattle.ordering.proofs.Placing.{length_singles}
use Rattle.g9932.proofs.Counts.{length_parts}
use Rattle.g9932.specs.Order.{one_bit, singles, others}
use Rattle.ordering.proofs.order.write_coded.Goals as goal
use Rattle.ordering.proofs.order.write_coded.Goals.{Start}

fits : (c : Start) → Fits c.args.bits.now c.args.tones.now
fits c = entries_fit_lem _ _ c.requires.ready.even

within : (c : Start) → c.args.ones ≤ length c.args.tones.now
within c = omega (arith, (fits c).ones_within, c.requires.ready.ones_is)

-- the 1-bit tones come behind the others
behind : (c : Start) → length c.args.tones.now - c.args.ones ≡ length (others c.args.bits.now c.args.tones.now)
behind c =
    let b = c.args.bits.now in
    let t = c.args.tones.now in
    omega (arith, length_parts (one_bit b) t, length_singles b t, c.requires.ready.ones_is)

pub place_others-requires : goal.place_others-requires
place_others-requires c =
    record {
      tones_fit = omega (arith, behind (goal.at.place_others-requires c).Start, c.requires.fits.tones_fit);
      bits_fit = omega (arith, (fits (goal.at.place_others-requires c).Start).whole, c.requires.ready.zeros_is, c.requires.fits.bits_fit, c.fill.auto.out);
      below = c.requires.ready.below;
    }

pub overflow_sub-behind : goal.overflow_sub-behind
overflow_sub-behind c = within (goal.at.overflow_sub-behind c).Start

pub place_ones-requires : goal.place_ones-requires
place_ones-requires c =
    omega (arith, length_singles c.args.bits.now c.args.tones.now, within (goal.at.place_ones-requires c).Start, c.requires.ready.ones_is, c.requires.fits.tones_fit, c.place_others.auto.reordered_tones)

pub overflow_sub-tones : goal.overflow_sub-tones
overflow_sub-tones c = omega (arith, within (goal.at.overflow_sub-tones c).Start)

pub fill-requires-2 : goal.fill-requires-2
fill-requires-2 c =
    omega (arith, within (goal.at.fill-requires-2 c).Start, c.requires.fits.bits_fit, c.fill.auto.out, c.place_others.auto.reordered_bits)

pub returns : goal.returns
returns c =
    let b = c.args.bits.now in
    let t = c.args.tones.now in
    let p = c.place_others.ensures in
    record {
      tones = tones_written b t c.args.reordered_tones.now (behind (goal.at.returns c).Start) c.requires.fits.tones_fit (c.place_ones.ensures ∙ ap (λ (l : List ℕ). sets l (length t - c.args.ones) (singles b t)) p.tones);
      bits = bits_written b t c.args.reordered_bits.now c.requires.ready c.requires.fits.bits_fit c.fill.ensures p.bits c.fill-2.ensures;
    }
