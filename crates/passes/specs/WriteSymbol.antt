-- A frame to labels by place, and these to points.
use Rattle.std.specs.Prelude.{ℕ, ◌≤◌, Bool, List, map, ◌≡◌, ℤ, length, take, drop}
use Rattle.frame.specs.Labels.{bits_of_labels, Within, labels_at, Placed}
use Rattle.g9932.specs.Filler.{register_after}
use Rattle.g9932.specs.Order.{sum, pairs_of}
use Rattle.g9932.specs.Sizes.{Tables, unpack}
use Rattle.g9932.specs.Symbol.{classes_of, write_points, sent_in}
use Rattle.g9932.specs.Trellis.{zero_state, encode_pairs}
use Rattle.g9932.specs.declared.Class.{Class}
use Rattle.g9932.specs.declared.Mode.{Mode}
use Rattle.g9932.specs.declared.Mode.TheVariants.{Uncoded, Coded}
use Rattle.mapper.specs.Writing.{CutNeeds}
use Rattle.plan.specs.Classes.{PlanOf}
use Rattle.plan.specs.declared.Plan.{Plan}
use Rattle.trellis.specs.Coding.{FrameNeeds}

-- ---- the labels of a frame

-- what each mode asks of a frame whose bits begin at bit `start`, and of the entries
abbrev pub LabelFrameNeeds : Mode → List ℕ → ℕ → List ℕ → List ℕ → List ℕ → Type 0
LabelFrameNeeds Uncoded f start es ps labels = CutNeeds f start es ps labels
LabelFrameNeeds Coded f start es ps labels = FrameNeeds f start es × Placed es ps labels

-- the bits that it sends
abbrev pub sent_for : Mode → List ℕ → ℕ → List ℕ → List Bool
sent_for Uncoded f start es = take (sum es) (drop start (unpack f))
sent_for Coded f start es = encode_pairs zero_state (pairs_of es) (drop start (unpack f))

-- the labels at the entries' places have the bits d
pub record EntryLabels (d : List Bool) (es ps labels : List ℕ) : Type 0 where
  pub bits_are : bits_of_labels es (labels_at ps labels) ≡ d
  pub within : Within es (labels_at ps labels) (length es)

-- ---- the points of labels

-- the labels are those of some classes and their bits
pub record WritePointsSupposes (cs : List Class) (d : List Bool) (from : ℕ) (es ps ds layouts labels : List ℕ) (xs ys : List ℤ) : Type 0 where
  pub plan : PlanOf cs from es ps ds layouts
  pub labelled : EntryLabels d es ps labels
  pub labels_length : length labels ≡ length cs
  pub xs_length : length xs ≡ length cs
  pub ys_length : length ys ≡ length cs

abbrev pub WritePointsNeeds : ℕ → List ℕ → List ℕ → List ℕ → List ℤ → List ℤ → Type 0
WritePointsNeeds from ds layouts labels xs ys =
    (cs : List Class) × (d : List Bool) × (es : List ℕ) × (ps : List ℕ) × WritePointsSupposes cs d from es ps ds layouts labels xs ys

pub record WritesPoints (cs : List Class) (r : ℕ) (d : List Bool) (after : ℕ) (xs_after ys_after : List ℤ) : Type 0 where
  pub xs_hold : xs_after ≡ map (λ p. p.px) (write_points r cs d)
  pub ys_hold : ys_after ≡ map (λ p. p.py) (write_points r cs d)
  pub register_is : after ≡ register_after r cs

-- whatever classes and bits they are
abbrev pub WritesAnyPoints : ℕ → List ℕ → List ℕ → List ℕ → List ℤ → List ℤ → ℕ → ℕ → List ℤ → List ℤ → Type 0
WritesAnyPoints from ds layouts labels xs ys r after xs_after ys_after =
    (cs : List Class) (d : List Bool) (es ps : List ℕ) → WritePointsSupposes cs d from es ps ds layouts labels xs ys → WritesPoints cs r d after xs_after ys_after

-- ---- a whole symbol

-- the frame is to be written by the plan of some tables
pub record WriteSymbolSupposes (T : Tables) (m : Mode) (from : ℕ) (f : List ℕ) (start : ℕ) (es ps ds layouts labels : List ℕ) (xs ys : List ℤ) : Type 0 where
  pub plan : PlanOf (classes_of T) from es ps ds layouts
  pub label_needs : LabelFrameNeeds m f start es ps labels
  pub sent : sent_for m f start es ≡ sent_in T start f
  pub labels_length : length labels ≡ length (classes_of T)
  pub xs_length : length xs ≡ length (classes_of T)
  pub ys_length : length ys ≡ length (classes_of T)

-- the same, by the plan as it is lent; a label for each place stands first in its list
abbrev pub WriteSymbolBy : Tables → Plan → List ℕ → ℕ → List ℕ → List ℤ → List ℤ → Type 0
WriteSymbolBy T p f start labels xs ys =
    WriteSymbolSupposes T p.mode p.shared_from.0 f start p.entries.bits.now p.entries.places.now p.drawing.now p.layouts.now (take (length p.layouts.now) labels) xs ys

pub record WriteSymbolNeeds (p : Plan) (f : List ℕ) (start : ℕ) (labels : List ℕ) (xs ys : List ℤ) : Type 0 where
  pub labels_fit : length p.layouts.now ≤ length labels
  pub tables : Tables
  pub planned : WriteSymbolBy tables p f start labels xs ys

-- whatever tables they are
abbrev pub WritesAnySymbol : Plan → List ℕ → ℕ → List ℕ → List ℤ → List ℤ → ℕ → ℕ → List ℤ → List ℤ → Type 0
WritesAnySymbol p f start labels xs ys r after xs_after ys_after =
    (T : Tables) → WriteSymbolBy T p f start labels xs ys → WritesPoints (classes_of T) r (sent_in T start f) after xs_after ys_after
