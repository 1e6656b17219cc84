-- Points to labels by place, and these to a frame.
use Rattle.std.specs.Prelude.{Option, None, Some, Result, Ok, Err, ⊤}
use Rattle.std.specs.Prelude.{ℕ, ◌+◌, ◌*◌, ◌^◌, ◌≤◌, ◌<◌, Bool, List, map, ◌≡◌, ℤ, length, take}
use Rattle.frame.specs.Labels.{bits_of_labels, Within, labels_at, Placed}
use Rattle.frame.specs.Written.{Framed}
use Rattle.g9932.specs.Answers.{on_done, report_of, report_by, break_in, frame_in, places_verdict, points_verdict}
use Rattle.g9932.specs.Filler.{register_after}
use Rattle.g9932.specs.Order.{Wide, pairs_of, sum}
use Rattle.g9932.specs.Refusals.{refused, accepted, number_of, place_of}
use Rattle.g9932.specs.Sizes.{Tables, entry, Point, points, bytes_for, pack, most_tones, most_bits, most_held}
use Rattle.g9932.specs.Symbol.{load, classes_of, size_of, gather_bits, reading_in}
use Rattle.g9932.specs.Trellis.{reading_of, taken_total}
use Rattle.g9932.specs.declared.Done.{Done}
use Rattle.g9932.specs.declared.Refusal.{Refusal}
use Rattle.g9932.specs.declared.Refused.{Refused}
use Rattle.g9932.specs.declared.Class.{Class}
use Rattle.g9932.specs.declared.Mode.{Mode}
use Rattle.g9932.specs.declared.Mode.TheVariants.{Uncoded, Coded}
use Rattle.plan.specs.Classes.{PlanOf}
use Rattle.plan.specs.declared.Plan.{Plan}

-- ---- the places

-- the points are to be read by the plan of some classes
pub record ReadPlacesSupposes (cs : List Class) (from : ℕ) (es ps ds layouts labels : List ℕ) (xs ys : List ℤ) : Type 0 where
  pub plan : PlanOf cs from es ps ds layouts
  pub labels_length : length labels ≡ length cs
  pub xs_length : length xs ≡ length cs
  pub ys_length : length ys ≡ length cs

abbrev pub ReadPlacesNeeds : List ℕ → List ℕ → List ℕ → List ℤ → List ℤ → Type 0
ReadPlacesNeeds ds layouts labels xs ys =
    (cs : List Class) × (from : ℕ) × (es : List ℕ) × (ps : List ℕ) × ReadPlacesSupposes cs from es ps ds layouts labels xs ys

-- labels by place: those of the tones' bits, none larger than the bits of its tone allow where it has data
pub record ToneLabels (cs : List Class) (d : List Bool) (labels : List ℕ) : Type 0 where
  pub bits_are : bits_of_labels (map load cs) labels ≡ d
  pub small : (k : ℕ) → k < length cs → 1 ≤ entry (map load cs) k → entry labels k < 2 ^ entry (map load cs) k
  pub labels_length : length labels ≡ length cs

-- nothing refused, the register after the draws is s
pub record PlacesDone (cs : List Class) (r : ℕ) (q : List Point) (s : ℕ) (labels : List ℕ) : Type 0 where
  pub passed : accepted 0 ≡ places_verdict cs q r
  pub register_is : s ≡ register_after r cs
  pub labels_are : ToneLabels cs (gather_bits cs q) labels

abbrev pub PlacesBy : List Class → ℕ → List Point → Result ℕ Refusal → List ℕ → Type 0
PlacesBy cs r q (Err x) labels = refused (number_of x) (place_of x) ≡ places_verdict cs q r
PlacesBy cs r q (Ok s) labels = PlacesDone cs r q s labels

pub record ReadsPlaces (cs : List Class) (r : ℕ) (q : List Point) (t : Result ℕ Refusal) (labels : List ℕ) : Type 0 where
  pub answer : PlacesBy cs r q t labels

-- whatever classes they are
abbrev pub ReadsAnyPlaces : List ℕ → List ℕ → List ℕ → List ℤ → List ℤ → ℕ → Result ℕ Refusal → List ℕ → Type 0
ReadsAnyPlaces ds layouts labels xs ys r t after =
    (cs : List Class) (from : ℕ) (es ps : List ℕ) → ReadPlacesSupposes cs from es ps ds layouts labels xs ys → ReadsPlaces cs r (points xs ys) t after

-- ---- the frame

-- what each mode asks of a start, of the entries and of a buffer of n bytes
abbrev pub HeldFits : Mode → ℕ → List ℕ → ℕ → Type 0
HeldFits Uncoded start es n = ((k : ℕ) → entry es k ≤ 15) × (start + sum es + 64 ≤ 8 * n)
HeldFits Coded start es n = Wide es × (4 ≤ length es) × (length es ≤ most_tones) × (start + taken_total (pairs_of es) + 64 ≤ 8 * n)

-- each entry has its label at its place
pub record FrameLabels (m : Mode) (start : ℕ) (es ps labels held : List ℕ) : Type 0 where
  pub placed : Placed es ps labels
  pub within : Within es (labels_at ps labels) (length es)
  pub start_most : start ≤ 7
  pub held_fits : HeldFits m start es (length held)

-- the pair at which a frame is not read
abbrev pub broken_at : {A : Type 0} → Result A ℕ → Option ℕ
broken_at (Ok a) = None
broken_at (Err k) = Some k

pub record ReadsFrame (m : Mode) (start : ℕ) (es : List ℕ) (d : List Bool) (read : Result ⊤ ℕ) (after : List ℕ) : Type 0 where
  pub broken_is : broken_at read ≡ break_in (reading_of m (pairs_of es) d)
  pub framed : broken_at read ≡ None → Framed start (frame_in (reading_of m (pairs_of es) d)) after

-- the frame, where no pair breaks the code
pub record ReadsPath (m : Mode) (start : ℕ) (es : List ℕ) (d : List Bool) (after : List ℕ) : Type 0 where
  pub framed : break_in (reading_of m (pairs_of es) d) ≡ None → Framed start (frame_in (reading_of m (pairs_of es) d)) after

-- the labels are those of some classes and their bits
pub record ReadFrameSupposes (m : Mode) (start : ℕ) (cs : List Class) (d : List Bool) (from : ℕ) (es ps ds layouts labels held : List ℕ) : Type 0 where
  pub plan : PlanOf cs from es ps ds layouts
  pub labelled : ToneLabels cs d labels
  pub start_most : start ≤ 7
  pub held_fits : HeldFits m start es (length held)

abbrev pub ReadFrameNeeds : Mode → ℕ → ℕ → List ℕ → List ℕ → List ℕ → List ℕ → Type 0
ReadFrameNeeds m start from es ps labels held =
    (cs : List Class) × (d : List Bool) × (ds : List ℕ) × (layouts : List ℕ) × ReadFrameSupposes m start cs d from es ps ds layouts labels held

-- whatever classes and bits they are
abbrev pub ReadsAnyFrame : Mode → ℕ → ℕ → List ℕ → List ℕ → List ℕ → List ℕ → Result ⊤ ℕ → List ℕ → Type 0
ReadsAnyFrame m start from es ps labels held read after =
    (cs : List Class) (d : List Bool) (ds layouts : List ℕ) → ReadFrameSupposes m start cs d from es ps ds layouts labels held → ReadsFrame m start es d read after

-- ---- a whole symbol

-- the points are to be read by the plan of some tables
pub record ReadSymbolSupposes (T : Tables) (m : Mode) (from size : ℕ) (es ps ds layouts : List ℕ) (xs ys : List ℤ) (labels held f : List ℕ) (start : ℕ) : Type 0 where
  pub plan : PlanOf (classes_of T) from es ps ds layouts
  pub labels_length : length labels ≡ length (classes_of T)
  pub xs_length : length xs ≡ length (classes_of T)
  pub ys_length : length ys ≡ length (classes_of T)
  pub start_most : start ≤ 7
  pub held_fits : HeldFits m start es (length held)
  pub held_length : length held ≡ most_held
  pub size_is : size ≡ size_of T
  pub frame_length : length f ≡ bytes_for start (size_of T)
  pub size_most : size_of T ≤ most_bits
  pub readings : (q : List Point) → reading_of m (pairs_of es) (gather_bits (classes_of T) q) ≡ reading_in T q
  pub whole : (q : List Point) (r : ℕ) → (places_verdict (classes_of T) q r).number ≡ 0 → length q ≡ length (classes_of T)
      → break_in (reading_in T q) ≡ None → length (frame_in (reading_in T q)) ≡ size_of T

-- the same, by the plan as it is lent; a label for each place stands first in its list
abbrev pub ReadSymbolBy : Tables → Plan → List ℤ → List ℤ → List ℕ → List ℕ → List ℕ → ℕ → Type 0
ReadSymbolBy T p xs ys labels held f start =
    ReadSymbolSupposes T p.mode p.shared_from.0 p.size p.entries.bits.now p.entries.places.now p.drawing.now p.layouts.now xs ys (take (length p.layouts.now) labels) held f start

pub record ReadSymbolNeeds (p : Plan) (xs ys : List ℤ) (labels held f : List ℕ) (start : ℕ) : Type 0 where
  pub labels_fit : length p.layouts.now ≤ length labels
  pub tables : Tables
  pub planned : ReadSymbolBy tables p xs ys labels held f start

pub record ReadsPoints (T : Tables) (q : List Point) (r : ℕ) (before : List ℕ) (start : ℕ) (a : Result Done Refused) (after : List ℕ) : Type 0 where
  pub answer : report_of a ≡ report_by (points_verdict T q r) r (register_after r (classes_of T))
  pub frame_holds : after ≡ on_done (points_verdict T q r) (pack start (frame_in (reading_in T q))) before

-- whatever tables they are
abbrev pub ReadsAnySymbol : Plan → List ℤ → List ℤ → List ℕ → List ℕ → List ℕ → ℕ → ℕ → Result Done Refused → List ℕ → Type 0
ReadsAnySymbol p xs ys labels held f start r a after =
    (T : Tables) → ReadSymbolBy T p xs ys labels held f start → ReadsPoints T (points xs ys) r f start a after
