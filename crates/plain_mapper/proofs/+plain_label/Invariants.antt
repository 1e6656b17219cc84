-- `plain_mapper::plain_label`: the bit count falls by two.
use Rattle.plain_mapper.proofs.+plain_label.Given as goal

abbrev pub decreases-plain_label : goal.decreases-plain_label
decreases-plain_label l = l.b
