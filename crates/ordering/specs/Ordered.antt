-- What is written for t' and b', and what the functions that write them ask.
use Rattle.std.specs.Prelude.{ℕ, ◌+◌, ◌-◌, ◌/◌, ◌%◌, ◌≤◌, List, ◌≡◌, leb, length, take}
use Rattle.std.proofs.lemmas.List.Edits.{sets}
use Rattle.g9932.specs.Order.{filter, bits_of, others, loaded, ones, reordered_tones, entry_count, reordered_bits}
use Rattle.g9932.specs.declared.Mode.{Mode}
use Rattle.tables.specs.Checks.{Below}
use Rattle.tables.specs.Modes.{sharing}

-- t' and b' fit their buffers
pub record OrderNeeds (t ts bs : List ℕ) : Type 0 where
  pub tones_fit : length t ≤ length ts
  pub bits_fit : length t ≤ length bs

-- t' and b' are written
pub record Written (m : Mode) (b t ts bs : List ℕ) : Type 0 where
  pub tones : take (length t) ts ≡ reordered_tones m b t
  pub bits : take (length t) bs ≡ reordered_bits m b t

-- what writing t' and b' asks, coded: an even number of 1-bit tones, and where the entries of b' begin
pub record CodedNeeds (b t : List ℕ) (one zeros : ℕ) : Type 0 where
  pub ones_is : one ≡ ones b t
  pub even : ones b t % 2 ≡ 0
  pub zeros_is : zeros ≡ length t - entry_count b t
  pub below : Below (length b) t

-- what placing the tones but the 1-bit ones asks: all fit
pub record PlaceNeeds (b t : List ℕ) (from tones_length bits_length : ℕ) : Type 0 where
  pub tones_fit : length (others b t) ≤ tones_length
  pub bits_fit : from + length (filter (leb 2) (bits_of b t)) ≤ bits_length
  pub below : Below (length b) t

-- and what it does to the two buffers
pub record Placing (b t : List ℕ) (from : ℕ) (ts bs ts_after bs_after : List ℕ) : Type 0 where
  pub tones : ts_after ≡ sets ts 0 (others b t)
  pub bits : bs_after ≡ sets bs from (filter (leb 2) (bits_of b t))

-- what writing t' and b' asks in either mode: what refusals 1 to 8 leave of the tables, and that t' and b' fit
pub record WriteNeeds (m : Mode) (entries sharers : ℕ) (b t ts bs : List ℕ) : Type 0 where
  pub fits : OrderNeeds t ts bs
  pub below : Below (length b) t
  pub entries_are : entries ≡ loaded b t - sharing m b t / 2
  pub sharers_are : sharers ≡ sharing m b t
  pub even : sharers % 2 ≡ 0
