-- `tables::lists::any_tone_fault` meets its contract. The invariant: `any` tells of the places before this one.
use Rattle.std.proofs.Common.{◌≡◌}
use Rattle.g9932.specs.Refusals.{tone_test}
use Rattle.tables.specs.Checks.{any_below}
use Rattle.tables.proofs.lists.any_tone_fault.Given as goal

abbrev pub invariant-loop-k : goal.invariant-loop-k
invariant-loop-k l = l.any ≡ any_below (tone_test l.g l.tones) l.k-index
