-- `prbs::next_bit` meets its contract: one draw.
use Rattle.g9932.specs.Filler.{draw_of}
use Rattle.g9932.specs.Bits.{odd}
use Rattle.prbs.proofs.next_bit.Goals as goal

pub returns : goal.returns
unfolding odd draw_of
returns c = λ i. record { bit = odd c.args.register; register = c.after_several.ensures i }
