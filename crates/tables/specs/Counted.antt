-- What refusals 1 to 6 leave of the tables, and the counts over the tones.
use Rattle.std.specs.Prelude.{ℕ, ◌<◌, ◌≤◌, false, List, ◌≡◌, length}
use Rattle.g9932.specs.Sizes.{entry, most_tones}
use Rattle.g9932.specs.Refusals.{member, twice_test}
use Rattle.g9932.specs.Order.{sum, bits_of, loaded, ones}
use Rattle.tables.specs.Checks.{Below}
use Rattle.tables.specs.declared.Counts.{Counts}

-- what refusals 1 to 6 leave of the bit table and t: t has indices below G, each once, and only they have bits, at most 15
pub record ListsPass (b t : List ℕ) : Type 0 where
  pub size : length b ≤ most_tones
  pub below : Below (length b) t
  pub once : (k : ℕ) → k < length t → twice_test t k ≡ false
  pub bits_most : (k : ℕ) → entry b k ≤ 15
  pub stray_bits : (k : ℕ) → member k t ≡ false → entry b k ≡ 0

-- the three counts are those of the tones
pub record CountsAre (c : Counts) (b t : List ℕ) : Type 0 where
  pub sum_is : c.sum ≡ sum (bits_of b t)
  pub loaded_is : c.loaded ≡ loaded b t
  pub ones_is : c.ones ≡ ones b t
