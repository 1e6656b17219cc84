-- `clip::any_monitored` meets its contract. The invariant: `any` tells of the sub-carriers before i.
use Rattle.std.proofs.Common.{◌≡◌}
use Rattle.tables.specs.Checks.{any_below}
use Rattle.clip.specs.Tones.{is_monitored_in}
use Rattle.clip.proofs.any_monitored.Given as goal

abbrev pub invariant-loop-i : goal.invariant-loop-i
invariant-loop-i l = l.any ≡ any_below (is_monitored_in l.bits l.gains) l.i
