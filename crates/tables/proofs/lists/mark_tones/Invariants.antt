-- `tables::lists::mark_tones` meets its contract. The invariant: marking what is left of t gives what marking all of it gives.
use Rattle.std.proofs.Common.{◌≡◌, drop}
use Rattle.tables.specs.Checks.{marked}
use Rattle.tables.proofs.lists.mark_tones.Given as goal

abbrev pub invariant-loop-tone : goal.invariant-loop-tone
invariant-loop-tone l = marked l.seen (drop l.tone-index l.tones) ≡ marked l.initial.seen l.tones
