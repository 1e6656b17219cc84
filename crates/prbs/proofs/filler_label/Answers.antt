-- `prbs::filler_label` meets its contract: the two lowest bits of the register are the next two drawn.
use Rattle.prbs.proofs.Draws.{two_drawn}
use Rattle.prbs.proofs.filler_label.Goals as goal

pub returns : goal.returns
returns c = record { label = two_drawn c.args.register; register = c.after_several.ensures }
