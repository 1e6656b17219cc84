-- `mapper::read::check_filler` meets its contract. The invariant: the places from the index on, compared from the register now and after what is
-- found, give what is asked.
use Rattle.mapper.proofs.FillerLoop.{Checking}
use Rattle.mapper.proofs.read.check_filler.Given as goal

abbrev pub invariant-loop-place : goal.invariant-loop-place
invariant-loop-place l = Checking l.drawing l.layouts l.register l.labels l.monitor l.next l.place-index
