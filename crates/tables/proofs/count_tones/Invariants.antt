-- `tables::count_tones` meets its contract. The invariant: each count so far with that of what is left of the bit table is that of all of
-- it, and no sum is above what that many entries can give.
use Rattle.std.proofs.Common.{◌≡◌, ◌+◌, ◌*◌, ◌≤◌, ltb, drop}
use Rattle.g9932.specs.Order.{sum, count, is_one}
use Rattle.tables.proofs.count_tones.Given as goal

abbrev pub invariant-loop-b : goal.invariant-loop-b
invariant-loop-b l = record {
  sums : l.sum + sum (drop l.b-index l.bits) ≡ sum l.bits;
  loads : l.loaded + count (ltb 0) (drop l.b-index l.bits) ≡ count (ltb 0) l.bits;
  singles : l.ones + count is_one (drop l.b-index l.bits) ≡ count is_one l.bits;
  sum_most : l.sum ≤ 15 * l.b-index;
  loaded_most : l.loaded ≤ l.b-index;
  ones_most : l.ones ≤ l.b-index;
}
