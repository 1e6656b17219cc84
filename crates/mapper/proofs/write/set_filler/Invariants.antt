-- `mapper::write::set_filler` meets its contract. The invariant: the places from the index on, filled from the register now, give what is asked.
use Rattle.mapper.proofs.FillerLoop.{Filling}
use Rattle.mapper.proofs.write.set_filler.Given as goal

abbrev pub invariant-loop-place : goal.invariant-loop-place
invariant-loop-place l = Filling l.drawing l.register l.initial.labels l.labels l.next l.place-index
