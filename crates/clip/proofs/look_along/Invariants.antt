-- `clip::look_along` meets its contract. The invariant: the look goes on from this place of t as it would from the first, and both counts
-- are at most as many as the tones so far.
use Rattle.std.proofs.Common.{◌≡◌, ◌≤◌, drop}
use Rattle.g9932.specs.Symbol.{classes_by}
use Rattle.clip.specs.Tones.{along, look}
use Rattle.clip.proofs.look_along.Given as goal

abbrev pub invariant-loop-tone : goal.invariant-loop-tone
invariant-loop-tone l = let cs = classes_by l.t.bits.now l.t.gains.now l.t.tones.now in record {
  place_most : l.place ≤ l.tone-index;
  silent_most : l.silent ≤ l.tone-index;
  goes_on : look (drop l.tone-index cs) (along l.place l.silent) ≡ look cs (along 0 0);
}
