use mathlib.Core.List.{List}
use mathlib.Core.Path.{refl, sym, ap, ◌∙◌}
use Prim.Native.Nat.{ℕ}
use lib.ListN.{length, take, length-map, drop_of_length-le}
use lib.Seq.{sets}
use native.Mathlib.Omega.{arith}
use Rattle.g9932.specs.Order.{bits_of, reordered_tones, reordered_bits}
use Rattle.g9932.specs.Sizes.{entry}
use Rattle.ordering.proofs.Runs.{take_sets}
use Rattle.ordering.proofs.order.write_uncoded.Goals as goal

pub returns : goal.returns
unfolding reordered_tones reordered_bits
returns c =
    let b = c.args.bits.now in
    let t = c.args.tones.now in
    let r = c.requires.fits in
    let d = drop_of_length-le t {i = c.loop-i.i} (omega arith) in
    record {
      tones = ap (take (length t)) (sym (ap (sets c.loop-i.reordered_tones c.loop-i.i) d) ∙ c.loop-i.invariant.tones) ∙ take_sets c.args.reordered_tones.now t (length t) refl r.tones_fit;
      bits = ap (take (length t)) (sym (ap (λ (s : List ℕ). sets c.loop-i.reordered_bits c.loop-i.i (bits_of b s)) d) ∙ c.loop-i.invariant.bits) ∙ take_sets c.args.reordered_bits.now (bits_of b t) (length t) (length-map t (entry b)) r.bits_fit;
    }
