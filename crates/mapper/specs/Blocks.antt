-- Labels to points, a block of places at a time: what the loops over a block ask and do.
use Rattle.std.specs.Prelude.{ℕ, ◌+◌, ◌≤◌, ◌<◌, true, false, List, ◌≡◌, ℤ, length}
use Rattle.constellation.specs.MapByLayout.{Mappable, MapsTo, MapsByRule}
use Rattle.constellation.specs.Stored.{Stored, is_stored, EntryOf, stored_or}
use Rattle.g9932.specs.Sizes.{entry, point_at}
use Rattle.mapper.specs.Writing.{PutNeeds}

-- the places of a block
abbrev pub most_places : ℕ
most_places = 128

-- each place of 9 bits or more has its point
pub record PutsByRule (layouts labels : List ℕ) (xs ys : List ℤ) : Type 0 where
  pub points : (i : ℕ) → i < length xs → MapsByRule (entry layouts i) (entry labels i) (point_at xs ys i)

-- the count tells whether the table has the points of all places, and whether of none
pub record CountsStored (layouts : List ℕ) (n : ℕ) : Type 0 where
  pub most : n ≤ length layouts
  pub all : n ≡ length layouts → (i : ℕ) → i < length layouts → is_stored (entry layouts i) ≡ true
  pub none : n ≡ 0 → (i : ℕ) → i < length layouts → is_stored (entry layouts i) ≡ false

-- ---- from the table

pub record FindNeeds (layouts labels entries : List ℕ) : Type 0 where
  pub layouts_length : length layouts ≡ length entries
  pub labels_length : length labels ≡ length entries
  pub mappable : (i : ℕ) → i < length entries → Mappable (entry layouts i) (entry labels i)

pub record FindsEntries (layouts labels entries : List ℕ) : Type 0 where
  pub found : (i : ℕ) → i < length entries → EntryOf (entry layouts i) (entry labels i) (entry entries i)

pub record LookNeeds (entries : List ℕ) : Type 0 where
  pub inside : (i : ℕ) → i < length entries → entry entries i < 510

pub record LooksUp (table entries after : List ℕ) : Type 0 where
  pub looked : (i : ℕ) → i < length after → entry after i ≡ entry table (entry entries i)

pub record PutStoredNeeds (layouts entries : List ℕ) (xs ys : List ℤ) : Type 0 where
  pub layouts_length : length layouts ≡ length xs
  pub entries_length : length entries ≡ length xs
  pub ys_length : length ys ≡ length xs

pub record PutsStored (layouts entries : List ℕ) (xs ys xs' ys' : List ℤ) : Type 0 where
  pub points : (i : ℕ) → i < length xs' → point_at xs' ys' i ≡ stored_or (entry layouts i) (entry entries i) (point_at xs ys i)

pub record TableNeeds (table layouts labels entries : List ℕ) (xs ys : List ℤ) : Type 0 where
  pub stored : Stored table
  pub put : PutNeeds layouts labels xs ys
  pub entries_length : length entries ≡ length xs

-- every place has its point, if those of 9 bits or more had theirs before
pub record PutsFromTable (layouts labels : List ℕ) (xs ys xs' ys' : List ℤ) : Type 0 where
  pub points : (i : ℕ) → i < length xs' → (is_stored (entry layouts i) ≡ false → MapsByRule (entry layouts i) (entry labels i) (point_at xs ys i))
      → MapsTo (entry layouts i) (entry labels i) (point_at xs' ys' i)

-- ---- the blocks

pub record BlockEnd (from places end : ℕ) : Type 0 where
  pub after : from < end
  pub inside : end ≤ places
  pub short : end ≤ from + most_places
  pub whole : end < places → end ≡ from + most_places
