-- The numbers of a symbol and its peak from the labels of its places, a block of places at a time.
use Rattle.std.specs.Prelude.{Option, None}
use Rattle.std.specs.Prelude.{ℕ, ◌+◌, ◌≤◌, ◌<◌, List, map, ◌≡◌, ℤ, Float, length, get_or}
use Rattle.constellation.specs.MapByLayout.{Mappable, MapsTo}
use Rattle.g9932.specs.Drive.{size_at}
use Rattle.g9932.specs.Sizes.{entry, Point, most_tones}
use Rattle.g9932.specs.declared.Peak.{Peak}
use Rattle.mapper.specs.Blocks.{TableNeeds, most_places}
use Rattle.drive.specs.Numbers.{whole_by}
use Rattle.drive.specs.Peaks.{Most, peak_by, carried, Lists}

-- the places of these layouts, labels and gains have these numbers, times 512
pub record Stand (layouts labels gains : List ℕ) (ws : List (Option Point)) : Type 0 where
  pub count : length ws ≡ length layouts
  pub wholes : (k : ℕ) → k < length ws → (p : Point) → MapsTo (entry layouts k) (entry labels k) p → whole_by (entry gains k) p ≡ get_or ws k None

-- the lists have them, and the peak is carried over them
pub record Drives (peak : Peak) (layouts labels gains : List ℕ) (from : ℕ) (xs ys : List Float) (r : Peak) : Type 0 where
  pub lists : (ws : List (Option Point)) → Stand layouts labels gains ws → Lists ws xs ys
  pub peak_is : (m : Most) (ws : List (Option Point)) → peak ≡ peak_by m → Stand layouts labels gains ws → r ≡ peak_by (carried m (map size_at ws) from)

pub record BlockNeeds (table layouts labels gains entries : List ℕ) (points_x points_y : List ℤ) (xs ys : List Float) (from : ℕ) : Type 0 where
  pub put : TableNeeds table layouts labels entries points_x points_y
  pub short : length points_x ≤ most_places
  pub xs_length : length xs ≡ length points_x
  pub ys_length : length ys ≡ length points_x
  pub gains_length : length gains ≡ length points_x
  pub gains_most : (k : ℕ) → k < length gains → entry gains k ≤ 4095
  pub places_most : from + length xs ≤ most_tones

pub record SymbolNeeds (layouts labels gains : List ℕ) (xs ys : List Float) : Type 0 where
  pub layouts_length : length layouts ≡ length xs
  pub labels_length : length labels ≡ length xs
  pub gains_length : length gains ≡ length xs
  pub ys_length : length ys ≡ length xs
  pub mappable : (k : ℕ) → k < length xs → Mappable (entry layouts k) (entry labels k)
  pub gains_most : (k : ℕ) → k < length gains → entry gains k ≤ 4095
  pub places_most : length xs ≤ most_tones

-- before the first place: 0, and NSC
abbrev pub none_yet : ℕ → Most
none_yet n = record { most = 0; place = n }

pub record DrivesSymbol (layouts labels gains : List ℕ) (xs ys : List Float) (r : Peak) : Type 0 where
  pub lists : (ws : List (Option Point)) → Stand layouts labels gains ws → Lists ws xs ys
  pub peak_is : (ws : List (Option Point)) → Stand layouts labels gains ws → r ≡ peak_by (carried (none_yet (length ws)) (map size_at ws) 0)
