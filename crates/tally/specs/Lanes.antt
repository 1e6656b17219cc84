-- How wrong bits are counted: a frame is cut into rows of 256 bytes, and lane j holds the ones of byte j of every row so far. A row adds at
-- most 8 to a lane, and a frame has at most 31 rows, so a byte holds a lane.
use Rattle.std.specs.Prelude.{ℕ, ◌*◌, ◌≤◌, List, ◌≡◌, length, take, get_or}
use Rattle.g9932.specs.Order.{sum}
use Rattle.tally.specs.PairReport.{wrong_bits}

abbrev pub lane_count : ℕ
lane_count = 256

-- every entry is at most k
abbrev pub AtMost : ℕ → List ℕ → Type 0
AtMost k l = (j : ℕ) → get_or l j 0 ≤ k

-- the lanes hold the wrong bits of that many rows; a short frame leaves lanes unused
pub record Rows (sent read : List ℕ) (rows : ℕ) (lanes : List ℕ) : Type 0 where
  pub length_is : length lanes ≡ lane_count
  pub unused : (j : ℕ) → length sent ≤ j → get_or lanes j 0 ≡ 0
  pub small : AtMost (8 * rows) lanes
  pub total : sum lanes ≡ wrong_bits (take (lane_count * rows) sent) (take (lane_count * rows) read)
