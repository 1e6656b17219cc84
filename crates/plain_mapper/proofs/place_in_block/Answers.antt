-- `plain_mapper::place_in_block` meets its contract: the four places of a block, and no other.
use lib.IntN.{pos}
use Rattle.g9932.specs.Bits.{first}
use Rattle.plain_mapper.proofs.Signed.{is_number, other_number}
use Rattle.plain_mapper.proofs.place_in_block.Goals as goal

pub returns-in-0-eq0 : goal.returns-in-0-eq0
unfolding first
returns-in-0-eq0 c = let w = c.in-0-eq0 in rw (is_number c.args.right 0 c.ranges.right w.is-0, is_number c.args.up 0 c.ranges.up w.is-1)

pub returns-in-0-eq2 : goal.returns-in-0-eq2
unfolding first
returns-in-0-eq2 c = let w = c.in-0-eq2 in rw (is_number c.args.right 0 c.ranges.right w.is-0, is_number c.args.up 2 c.ranges.up w.is-1)

pub returns-in-2-eq0 : goal.returns-in-2-eq0
unfolding first
returns-in-2-eq0 c = let w = c.in-2-eq0 in rw (is_number c.args.right 2 c.ranges.right w.is-0, is_number c.args.up 0 c.ranges.up w.is-1)

pub returns-in-2-eq2 : goal.returns-in-2-eq2
unfolding first
returns-in-2-eq2 c = let w = c.in-2-eq2 in rw (is_number c.args.right 2 c.ranges.right w.is-0, is_number c.args.up 2 c.ranges.up w.is-1)

pub returns-in_default : goal.returns-in_default
unfolding first
returns-in_default c =
    let w = c.in_default in
    rw (is_number c.args.right 0 c.ranges.right w.is-0, other_number (pos 0) c.args.up w.is-1.0.1, other_number (pos 2) c.args.up w.is-1.1)

pub returns-in_default-2 : goal.returns-in_default-2
unfolding first
returns-in_default-2 c =
    let w = c.in_default in
    rw (is_number c.args.right 2 c.ranges.right w.is-0, other_number (pos 0) c.args.up w.is-1.0.1, other_number (pos 2) c.args.up w.is-1.1)

pub returns-in_default-3 : goal.returns-in_default-3
unfolding first
returns-in_default-3 c =
    let w = c.in_default.is-0 in
    rw (other_number (pos 0) c.args.right w.0.1, other_number (pos 2) c.args.right w.1)
