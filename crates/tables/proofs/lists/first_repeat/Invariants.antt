-- `tables::lists::first_repeat` meets its contract. The invariant: 3 applies to no place before i, and the entries before i are marked.
use Rattle.std.proofs.Common.{◌≡◌, None, length, take}
use Rattle.g9932.specs.Sizes.{most_tones}
use Rattle.g9932.specs.Bits.{first}
use Rattle.g9932.specs.Refusals.{twice_test}
use Rattle.tables.specs.Checks.{Marks}
use Rattle.tables.proofs.lists.first_repeat.Given as goal

abbrev pub invariant-loop-i : goal.invariant-loop-i
invariant-loop-i l = record {
  long : length l.seen ≡ most_tones;
  none : first (twice_test l.tones) l.i ≡ None;
  marks : Marks (take l.i l.tones) l.seen;
}
