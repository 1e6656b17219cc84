-- `cosets::in_rectangle` meets its contract: nearest on each axis is nearest in the rectangle.
use Rattle.cosets.proofs.Places.{rectangle}
use Rattle.cosets.proofs.in_rectangle.Goals as goal

pub returns : goal.returns
returns c = rectangle _ _ _ _ _ _ _ _ _ _ c.place-u.ensures c.place-w.ensures c.square_at.ensures.0 c.square_at-2.ensures.0
