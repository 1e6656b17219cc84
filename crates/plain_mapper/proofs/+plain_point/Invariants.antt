-- `plain_mapper::plain_point`: the bit count falls by two.
use Rattle.plain_mapper.proofs.+plain_point.Given as goal

abbrev pub decreases-plain_point : goal.decreases-plain_point
decreases-plain_point l = l.b
