-- `plain_mapper::small::five_bits` meets its contract: the rule is a test at each label, computed once.
use mathlib.Core.Path.{ap₂, ◌∙◌}
use native.Mathlib.Omega.{arith}
use mir.Syntax.{w16}
use mir.ValLaws.{to_z-of_z}
use Rattle.g9932.specs.Sizes.{point}
use Rattle.plain_mapper.proofs.FiveBits.{word_small, five_point}
use Rattle.std.proofs.Common.{rules}
use Rattle.plain_mapper.proofs.small.five_bits.Goals as goal

pub coordinate-requires : goal.coordinate-requires
coordinate-requires c =
    let w = word_small c.args.label c.requires c.table_10_3-top.result c.table_10_3-top.ensures in
    (omega (arith, w), omega arith, omega arith)

pub returns : goal.returns
returns c =
    ap₂ point
    (to_z-of_z w16 c.coordinate.result (search rules) ∙ c.coordinate.ensures)
    (to_z-of_z w16 c.coordinate-2.result (search rules) ∙ c.coordinate-2.ensures)
    ∙ five_point c.args.label c.requires c.table_10_3-top.result c.table_10_3-top.ensures
