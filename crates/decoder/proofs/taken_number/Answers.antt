-- `decoder::taken_number` meets its contract: u3 upward, below it u1 and u2 where they are not forced.
use Rattle.trellis.proofs.Numbers.{weight_from}
use Rattle.decoder.specs.Reading.{taken_number}
use Rattle.decoder.proofs.taken_number.Goals as goal

pub returns-then-forced : goal.returns-then-forced
unfolding taken_number
returns-then-forced c = rw (c.if-forced.true, c.from.ensures, weight_from c.args.u.u3)

pub returns : goal.returns
unfolding taken_number
returns c = rw (c.if-forced.false, c.label.ensures, c.from.ensures, weight_from c.args.u.u3)
