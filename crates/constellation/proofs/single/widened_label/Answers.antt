-- `constellation::single::widened_label` meets its contract: the top five bits by one shift, the top bits by one exclusive or.
use mathlib.Core.Path.{◌∙◌, ap}
use lib.Bits.{bit_xor}
use Prim.Native.Nat.{◌/◌}
use Rattle.constellation.specs.Widened.{top_four}
use Rattle.constellation.proofs.Sizes.{five_lt}
use Rattle.constellation.proofs.Tops.{five_law, widened_law}
use Rattle.constellation.proofs.single.widened_label.Goals as goal

pub widening-requires : goal.widening-requires
widening-requires c = rw (five_law c.args.k c.args.label c.requires.0) (five_lt c.args.k c.args.label c.requires.2)

pub returns : goal.returns
returns c =
    let a = c.args in
    let p = c.requires in
    widened_law a.k a.label c.widening.result p.1 p.2 (c.widening.ensures ∙ ap (λ q. bit_xor (q / 4) (top_four q)) (five_law a.k a.label p.0))
