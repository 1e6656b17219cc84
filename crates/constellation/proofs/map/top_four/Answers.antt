-- `constellation::map::top_four` meets its contract: a test of what the code gives at all 32 top fives.
use Prim.Native.Nat.{ℕ}
use mathlib.Core.Path.{refl}
use borrow.Fn.Function.{res_v}
use Rattle.g9932.specs.Bits.{first}
use Rattle.constellation.specs.Widened.{top_four}
use Rattle.constellation.proofs.Mapping.{rule}
use Rattle.constellation.proofs.map.top_four.Reads as reads
use Rattle.constellation.proofs.map.top_four.Lts as lts
use Rattle.constellation.proofs.map.top_four.Goals as goal

-- the code's answer
abbrev answer : ℕ → ℕ
answer q = res_v lts.r tt (lts.m70 reads.Pre reads.Post (record { q = q })).0

pub returns : goal.returns
unfolding first top_four
returns c = rule answer top_four 32 refl c.args.q c.requires
