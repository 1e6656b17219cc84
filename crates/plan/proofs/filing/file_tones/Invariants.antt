-- `plan::filing::file_tones` meets its contract. The invariant: up to the cursors, the lists are those of the tones so far that do not share an
-- entry.
use Prim.Native.Nat.{◌≤◌}
use lib.ListN.{take}
use Rattle.g9932.specs.Order.{filter}
use Rattle.g9932.specs.Symbol.{classes_by}
use Rattle.plan.specs.Plan.{Filing, is_placed}
use Rattle.plan.proofs.filing.file_tones.Given as goal

abbrev pub invariant-loop-tone : goal.invariant-loop-tone
invariant-loop-tone l = (l.at.place.0 ≤ l.tone-index)
    × Filing l.least (filter (is_placed l.least) (classes_by l.t.bits.now l.t.gains.now (take l.tone-index l.t.tones.now))) l.at l.room
