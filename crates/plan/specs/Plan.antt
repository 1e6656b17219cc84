-- The plan of a symbol: what its passes need of the tables, by place in t' and by entry of b'.
use Rattle.std.specs.Prelude.{ℕ, zero, suc, ◌+◌, ◌-◌, ◌*◌, ◌/◌, ◌%◌, ◌≤◌, ◌<◌, Bool, true, List, [], ◌∷◌, ◌++◌, map, ◌≡◌, ltb, leb, length, take, set, replicate, Result, Ok, Err}
use Rattle.constellation.specs.Layouts.{class_layout}
use Rattle.g9932.specs.Bits.{weight}
use Rattle.g9932.specs.Filler.{draws}
use Rattle.g9932.specs.Order.{cons_if, filter}
use Rattle.g9932.specs.Refusals.{number_of, place_of, Verdict, refused, accepted, table_verdict}
use Rattle.g9932.specs.Sizes.{Tables, tables, entry, most_tones}
use Rattle.g9932.specs.Symbol.{load, classes_of, size_of}
use Rattle.g9932.specs.declared.Class.{Class}
use Rattle.g9932.specs.declared.Class.TheVariants.{Data, Monitored, Silent}
use Rattle.g9932.specs.declared.Mode.{Mode}
use Rattle.g9932.specs.declared.Mode.TheVariants.{Uncoded, Coded}
use Rattle.tables.specs.Checks.{Below}
pub use Rattle.tables.specs.Modes.{sharing}
use Rattle.g9932.specs.declared.Refusal.{Refusal}
use Rattle.tables.specs.declared.sizes.FrameSize.{FrameSize}
use Rattle.plan.specs.declared.Plan.{Plan}
use Rattle.plan.specs.declared.Room.{Room}
use Rattle.plan.specs.declared.filing.Cursors.{Cursors}

-- ---- the plan of accepted tables

-- the bits from which on a tone has a non-zero entry of b' of its own; coded, two tones of 1 bit share one
abbrev pub least_own : Mode → ℕ
least_own Uncoded = 1
least_own Coded = 2

-- the places, from i on, at which a test holds
abbrev pub places_where : {A : Type 0} → (A → Bool) → ℕ → List A → List ℕ
places_where p i [] = []
places_where p i (a ∷ l) = cons_if (p a) i (places_where p (suc i) l)

-- h places, two apart
abbrev pub every_second : ℕ → ℕ → List ℕ
every_second p zero = []
every_second p (suc h) = p ∷ every_second (suc (suc p)) h

-- by place in t': its layout
abbrev pub layouts_in : Tables → List ℕ
layouts_in T = map class_layout (classes_of T)

-- the first of the places that share; they are the last ones of t'
abbrev pub shared_from : Tables → ℕ
shared_from T = length T.tones - sharing T.mode T.bits T.tones

-- by non-zero entry of b': its bits, and the place of its tone, of two that share it the first
abbrev pub entries_in : Tables → List ℕ
entries_in T = filter (leb (least_own T.mode)) (map load (classes_of T)) ++ replicate (sharing T.mode T.bits T.tones / 2) 2

abbrev pub places_in : Tables → List ℕ
places_in T = places_where (leb (least_own T.mode)) 0 (map load (classes_of T)) ++ every_second (shared_from T) (sharing T.mode T.bits T.tones / 2)

-- the places that draw filler bits: those of the 0-bit tones
abbrev pub is_drawing : Class → Bool
is_drawing c = ltb 0 (draws c)

abbrev pub drawing_in : Tables → List ℕ
drawing_in T = places_where is_drawing 0 (classes_of T)

-- ---- what planning answers

abbrev pub planned_verdict : Result Plan Refusal → Verdict
planned_verdict (Ok p) = accepted p.size
planned_verdict (Err x) = refused (number_of x) (place_of x)

-- the lists of a plan
pub record PlanIs (T : Tables) (p : Plan) : Type 0 where
  pub mode_is : p.mode ≡ T.mode
  pub size_is : p.size ≡ size_of T
  pub layouts_are : p.layouts.now ≡ layouts_in T
  pub shared_is : p.shared_from.0 ≡ shared_from T
  pub entries_are : p.entries.bits.now ≡ entries_in T
  pub places_are : p.entries.places.now ≡ places_in T
  pub drawing_are : p.drawing.now ≡ drawing_in T
  pub entries_most : length p.entries.bits.now ≤ length T.tones

abbrev pub Made : Tables → Result Plan Refusal → Type 0
Made T (Ok p) = PlanIs T p
Made T (Err x) = Unit {0}

-- the answer, and where nothing is refused the plan
pub record Plans (T : Tables) (r : Result Plan Refusal) : Type 0 where
  pub answer : planned_verdict r ≡ table_verdict T
  pub made : Made T r

-- ---- filing the tones

-- the four lists of a room
abbrev pub room : List ℕ → List ℕ → List ℕ → List ℕ → Room
room layouts entries places drawing = record { layouts = layouts; entries = entries; places = places; drawing = drawing }

-- no list stands in it yet
abbrev pub empty_room : Room
empty_room = room (replicate most_tones 0) (replicate most_tones 0) (replicate most_tones 0) (replicate most_tones 0)

pub record PlanNeeds (m : Mode) (frame : FrameSize) (b g t : List ℕ) : Type 0 where
  pub size_is : frame.size ≡ size_of (tables m b g t)
  pub below : Below (length b) t
  pub bits_most : (k : ℕ) → entry b k ≤ 15
  pub gains : length g ≡ length b
  pub most : length t ≤ most_tones
  pub sharers_are : frame.sharers ≡ sharing m b t
  pub even : frame.sharers % 2 ≡ 0

-- a class that a tone of accepted tables has: 1 to 15 bits where it has data
abbrev pub ClassBits : Class → Type 0
ClassBits (Data n) = (1 ≤ n) × (n ≤ 15)
ClassBits Monitored = Unit {0}
ClassBits Silent = Unit {0}

-- whether a tone comes before those that share
abbrev pub is_placed : ℕ → Class → Bool
is_placed least (Data b) = leb least b
is_placed least Monitored = true
is_placed least Silent = true

-- a tone without data: its place fits two of the lists, and goes into both
pub record EmptyNeeds (at : Cursors) : Type 0 where
  pub place_most : at.place.0 < most_tones
  pub drawing_most : at.drawing ≤ at.place.0

pub record FilesEmpty (layout : ℕ) (at : Cursors) (before : Room) (r : Cursors) (after : Room) : Type 0 where
  pub place_is : r.place.0 ≡ at.place.0 + 1
  pub entry_is : r.entry ≡ at.entry
  pub drawing_is : r.drawing ≡ at.drawing + 1
  pub room_is : after ≡ room (set before.layouts at.place.0 layout) before.entries before.places (set before.drawing at.drawing at.place.0)

-- what filing one tone asks: it fits the lists
pub record ToneNeeds (c : Class) (least : ℕ) (at : Cursors) : Type 0 where
  pub carries : ClassBits c
  pub least_is : 1 ≤ least
  pub place_most : at.place.0 < most_tones
  pub entry_most : at.entry ≤ at.place.0
  pub drawing_most : at.drawing ≤ at.place.0

-- what one tone adds to the lists, up to the cursors
pub record FilesTone (least : ℕ) (c : Class) (at : Cursors) (before : Room) (r : Cursors) (after : Room) : Type 0 where
  pub place_is : r.place.0 ≡ at.place.0 + weight (is_placed least c)
  pub entry_is : r.entry ≡ at.entry + weight (leb least (load c))
  pub drawing_is : r.drawing ≡ at.drawing + weight (is_drawing c)
  pub layouts_are : take r.place.0 after.layouts ≡ take at.place.0 before.layouts ++ cons_if (is_placed least c) (class_layout c) []
  pub entries_are : take r.entry after.entries ≡ take at.entry before.entries ++ cons_if (leb least (load c)) (load c) []
  pub places_are : take r.entry after.places ≡ take at.entry before.places ++ cons_if (leb least (load c)) at.place.0 []
  pub drawing_are : take r.drawing after.drawing ≡ take at.drawing before.drawing ++ cons_if (is_drawing c) at.place.0 []

-- the lists of classes in the order of their places, up to the cursors
pub record Filing (least : ℕ) (cs : List Class) (at : Cursors) (all : Room) : Type 0 where
  pub place_is : at.place.0 ≡ length cs
  pub layouts_are : take at.place.0 all.layouts ≡ map class_layout cs
  pub entries_are : take at.entry all.entries ≡ filter (leb least) (map load cs)
  pub places_are : take at.entry all.places ≡ places_where (leb least) 0 (map load cs)
  pub drawing_are : take at.drawing all.drawing ≡ places_where is_drawing 0 cs
  pub entry_most : at.entry ≤ at.place.0
  pub drawing_most : at.drawing ≤ at.place.0

pub record FileNeeds (least : ℕ) (b g t : List ℕ) : Type 0 where
  pub below : Below (length b) t
  pub bits_most : (k : ℕ) → entry b k ≤ 15
  pub gains : length g ≡ length b
  pub most : length t ≤ most_tones
  pub least_is : 1 ≤ least

-- entries that two tones share, behind the others
pub record ShareNeeds (h from at : ℕ) : Type 0 where
  pub most : from + 2 * h ≤ most_tones
  pub at_most : at ≤ from

pub record Shares (layout from h at : ℕ) (before after : Room) : Type 0 where
  pub layouts_are : take (from + 2 * h) after.layouts ≡ take from before.layouts ++ replicate (2 * h) layout
  pub entries_are : take (at + h) after.entries ≡ take at before.entries ++ replicate h 2
  pub places_are : take (at + h) after.places ≡ take at before.places ++ every_second from h
  pub drawing_is : after.drawing ≡ before.drawing
