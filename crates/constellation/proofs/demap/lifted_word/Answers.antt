-- `constellation::demap::lifted_word` meets its contract: no sum is larger than sixteen bits.
use Rattle.constellation.proofs.Spread.{spread_byte_le, lifted_word}
use Prim.Native.Nat.{ℕ, ◌+◌, ◌*◌}
use mathlib.Core.Path.{ap₂, ◌∙◌}
use native.Mathlib.Omega.{arith}
use Rattle.constellation.proofs.demap.lifted_word.Goals as goal

pub overflow_mul-result : goal.overflow_mul-result
overflow_mul-result c =
    record { fits = omega (arith, c.spread_byte.ensures, spread_byte_le (c.args.x * c.args.c) c.requires.0) }

pub overflow_add-result : goal.overflow_add-result
overflow_add-result c =
    record { fits = omega (arith, c.spread_byte.ensures, c.spread_byte-2.ensures, spread_byte_le (c.args.x * c.args.c) c.requires.0, spread_byte_le (c.args.y * c.args.c) c.requires.1) }

pub returns : goal.returns
returns c =
    λ j e. ap₂ (λ (u v : ℕ). 2 * u + v) c.spread_byte.ensures c.spread_byte-2.ensures ∙ lifted_word c.args.c c.args.x c.args.y c.requires.0 c.requires.1 j e
