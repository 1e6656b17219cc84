-- `mapper::points::count_stored` meets its contract. The invariant: the tones before the index are counted.
use Rattle.mapper.proofs.BlockLoops.{Counting}
use Rattle.mapper.proofs.points.count_stored.Given as goal

abbrev pub invariant-loop-layout : goal.invariant-loop-layout
invariant-loop-layout l = Counting l.layouts l.count l.layout-index
