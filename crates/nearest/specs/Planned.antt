-- Nearest reading from the plan of the tables on. A function is not lent the tables that its lists were planned from: ...Supposes is what
-- it supposes of some, ...Needs that there are such, and ...Any... is its promise for whichever they are.
use Rattle.std.specs.Prelude.{Result, Ok, ℕ, suc, ◌+◌, ◌*◌, ◌/◌, ◌≤◌, ◌<◌, Bool, List, ◌≡◌, ℤ, length}
use Rattle.constellation.specs.Layouts.{layout_of}
use Rattle.cosets.specs.Meters.{Meter}
use Rattle.frame.specs.Labels.{bits_of_labels, Within, labels_at, Placed}
use Rattle.g9932.specs.Filler.{after_draws, register_after}
use Rattle.g9932.specs.Nearest.{NearestFrame, nearest_inputs, work_bytes, ReadsNearest}
use Rattle.g9932.specs.Order.{pairs_of}
use Rattle.g9932.specs.Sizes.{Tables, entry, Point, points, bytes_for, pack, most_tones, most_bits, most_held}
use Rattle.g9932.specs.Symbol.{classes_of, size_of}
use Rattle.g9932.specs.Trellis.{frame, reading_of}
use Rattle.g9932.specs.declared.Mode.{Mode}
use Rattle.g9932.specs.declared.Mode.TheVariants.{Uncoded, Coded}
use Rattle.g9932.specs.declared.Nearest.{Nearest}
use Rattle.mapper.specs.Writing.{FillerNeeds}
use Rattle.passes.specs.ReadSymbol.{HeldFits}
use Rattle.plan.specs.Plan.{least_own}
use Rattle.plan.specs.declared.Plan.{Plan}
use Rattle.symbol.specs.Inputs.{PlansFor}
use Rattle.g9932.specs.declared.Refused.{Refused}
use Rattle.decisions.specs.declared.CostLists.{CostLists}
use Rattle.decisions.specs.Entries.{meters_in, Decidable}
use Rattle.decisions.specs.Deciding.{PlaceNeeds, pair_meters, MeterCosts, PathNeeds, LeastPath, TraceNeeds, LowTraced, Traced, ToneNeeds, LeastLows, BestAll}

-- ---- the inputs

-- the bytes of the working buffer, by the entries
abbrev pub work_for : Mode → ℕ → ℕ
work_for Uncoded n = 0
work_for Coded n = 16 * ((n + 1) / 2)

-- ---- the labels

-- the layouts at the entries' places: of an entry of its own that of its bits, of a shared one two of 1 bit
pub record LaidOut (from : ℕ) (es ps layouts : List ℕ) : Type 0 where
  pub own : (k : ℕ) → k < length es → entry ps k < from → entry layouts (entry ps k) ≡ layout_of (entry es k)
  pub first : (k : ℕ) → k < length es → from ≤ entry ps k → entry layouts (entry ps k) ≡ layout_of 1
  pub second : (k : ℕ) → k < length es → from ≤ entry ps k → entry layouts (suc (entry ps k)) ≡ layout_of 1

-- coded, there are enough entries, and the working buffer has 16 bytes a pair; uncoded every tone has an entry of its own
abbrev pub ModeNeeds : Mode → ℕ → List ℕ → List ℤ → List ℕ → Type 0
ModeNeeds Uncoded from es xs work = from ≡ length xs
ModeNeeds Coded from es xs work = (4 ≤ length es) × (length work ≡ 16 * ((length es + 1) / 2))

pub record DecideSupposes (m : Mode) (from : ℕ) (es ps layouts : List ℕ) (xs ys : List ℤ) (work labels : List ℕ) : Type 0 where
  pub tones : PlaceNeeds layouts xs ys
  pub laid : LaidOut from es ps layouts
  pub decidable : Decidable (least_own m) from es ps xs ys
  pub many : length es ≤ most_tones
  pub labels_length : length labels ≡ length xs
  pub by_mode : ModeNeeds m from es xs work

abbrev pub DecideNeeds : Mode → ℕ → List ℕ → List ℕ → List ℤ → List ℤ → List ℕ → List ℕ → Type 0
DecideNeeds m from ps layouts xs ys work labels = (es : List ℕ) × DecideSupposes m from es ps layouts xs ys work labels

-- the two lowest bits of the labels at the entries' places, by the costs there
abbrev pub LowNeeds : Mode → ℕ → List ℕ → List ℕ → CostLists → List ℕ → List ℕ → Type 0
LowNeeds Uncoded from ps layouts ks work labels = ToneNeeds layouts ps labels
LowNeeds Coded from ps layouts ks work labels =
    PathNeeds from ps work × TraceNeeds ps work labels × ((ms : List Meter) × MeterCosts ms from ps ks)

-- coded: along a path of least cost, which some survivors gave
pub record PathLows (from : ℕ) (ps : List ℕ) (ks : CostLists) (labels : List ℕ) (n : ℕ) : Type 0 where
  pub survivors : List ℕ
  pub path : (ms : List Meter) → MeterCosts ms from ps ks → LeastPath (pair_meters ms) survivors n
  pub traced : LowTraced ps survivors labels (length ps)

abbrev pub Lows : Mode → ℕ → List ℕ → List ℕ → CostLists → List ℕ → ℕ → Type 0
Lows Uncoded from ps layouts ks labels n = LeastLows layouts ps ks labels n
Lows Coded from ps layouts ks labels n = PathLows from ps ks labels n

-- uncoded: the labels at the entries' places are nearest, within their bits, and n is what they cost
pub record DecidesTones (from : ℕ) (es ps : List ℕ) (q : List Point) (labels : List ℕ) (n : ℕ) : Type 0 where
  pub within : Within es (labels_at ps labels) (length es)
  pub best : BestAll (meters_in from q es ps) (bits_of_labels es (labels_at ps labels)) n

-- coded: nearest labels along a path of least cost, which some survivors gave
pub record DecidesPairs (from : ℕ) (es ps : List ℕ) (q : List Point) (labels : List ℕ) (n : ℕ) : Type 0 where
  pub survivors : List ℕ
  pub path : LeastPath (pair_meters (meters_in from q es ps)) survivors n
  pub traced : Traced from es ps q survivors labels (length es)

abbrev pub Decides : Mode → ℕ → List ℕ → List ℕ → List Point → List ℕ → ℕ → Type 0
Decides Uncoded from es ps q labels n = DecidesTones from es ps q labels n
Decides Coded from es ps q labels n = DecidesPairs from es ps q labels n

-- whatever entries they are
abbrev pub DecidesAny : Mode → ℕ → List ℕ → List ℕ → List ℤ → List ℤ → List ℕ → List ℕ → List ℕ → ℕ → Type 0
DecidesAny m from ps layouts xs ys work labels after n =
    (es : List ℕ) → DecideSupposes m from es ps layouts xs ys work labels → Decides m from es ps (points xs ys) after n

-- ---- a whole symbol

-- decided labels are a nearest frame's
pub record NearestBits (T : Tables) (m : Mode) (es : List ℕ) (q : List Point) (r start : ℕ) (d : List Bool) (n : ℕ) : Type 0 where
  pub bits : List Bool
  pub reads : reading_of m (pairs_of es) d ≡ frame bits
  pub size : length bits ≡ size_of T
  pub nearest : NearestFrame T q r start (pack start bits) n

pub record NearestSupposes (T : Tables) (m : Mode) (from size : ℕ) (es ps ds layouts : List ℕ) (xs ys : List ℤ) (labels held f : List ℕ) (start : ℕ) (work : List ℕ) : Type 0 where
  pub decide : DecideSupposes m from es ps layouts xs ys work labels
  pub filler : FillerNeeds ds labels
  pub register_is : (r : ℕ) → after_draws (2 * length ds) r ≡ register_after r (classes_of T)
  pub placed : (ls : List ℕ) → length ls ≡ length labels → Placed es ps ls
  pub start_most : start ≤ 7
  pub held_fits : HeldFits m start es (length held)
  pub held_length : length held ≡ most_held
  pub size_is : size ≡ size_of T
  pub size_most : size_of T ≤ most_bits
  pub frame_length : length f ≡ bytes_for start (size_of T)
  pub within : (ls : List ℕ) (n : ℕ) → length ls ≡ length labels → Decides m from es ps (points xs ys) ls n → Within es (labels_at ps ls) (length es)
  pub bits_nearest : (r : ℕ) (ls : List ℕ) (n : ℕ) → length ls ≡ length labels → Decides m from es ps (points xs ys) ls n
      → NearestBits T m es (points xs ys) r start (bits_of_labels es (labels_at ps ls)) n

-- the same, by the plan as it is lent
abbrev pub NearestBy : Tables → Plan → List ℤ → List ℤ → List ℕ → List ℕ → List ℕ → ℕ → List ℕ → Type 0
NearestBy T p xs ys labels held f start work =
    NearestSupposes T p.mode p.shared_from.0 p.size p.entries.bits.now p.entries.places.now p.drawing.now p.layouts.now xs ys labels held f start work

abbrev pub NearestNeeds : Plan → List ℤ → List ℤ → List ℕ → List ℕ → List ℕ → ℕ → List ℕ → Type 0
NearestNeeds p xs ys labels held f start work = (T : Tables) × NearestBy T p xs ys labels held f start work

-- L, the register after the draws, and a nearest frame with its total
pub record ReadsPlanned (T : Tables) (q : List Point) (r start : ℕ) (a : Nearest) (after : List ℕ) : Type 0 where
  pub size_is : a.size ≡ size_of T
  pub register_is : a.register ≡ register_after r (classes_of T)
  pub nearest : NearestFrame T q r start after a.total

-- whatever tables they are
abbrev pub ReadsAnyPlanned : Plan → List ℤ → List ℤ → List ℕ → List ℕ → List ℕ → ℕ → List ℕ → ℕ → Nearest → List ℕ → Type 0
ReadsAnyPlanned p xs ys labels held f start work r a after =
    (T : Tables) → NearestBy T p xs ys labels held f start work → ReadsPlanned T (points xs ys) r start a after

-- ---- a whole symbol, from the plan of tables and inputs of which nothing is refused but a coordinate

pub record PlannedBy (T : Tables) (p : Plan) (xs ys : List ℤ) (r : ℕ) (f : List ℕ) (start : ℕ) (work : List ℕ) : Type 0 where
  pub plans : PlansFor T (λ size. nearest_inputs start size (length T.tones) (work_bytes T) (length xs) (length ys) (length f) (length work) r) (Ok p)

abbrev pub PlannedNeeds : Plan → List ℤ → List ℤ → ℕ → List ℕ → ℕ → List ℕ → Type 0
PlannedNeeds p xs ys r f start work = (T : Tables) × PlannedBy T p xs ys r f start work

-- whatever tables they are
abbrev pub ReadsAnyPlan : Plan → List ℤ → List ℤ → ℕ → List ℕ → ℕ → List ℕ → Result Nearest Refused → List ℕ → List ℕ → Type 0
ReadsAnyPlan p xs ys r f start work a after work_after =
    (T : Tables) → PlannedBy T p xs ys r f start work → ReadsNearest T xs ys r start f work a after work_after
