-- Points to labels by place, and these to frame bits.
use Rattle.std.specs.Prelude.{Option, None, Some}
use Rattle.std.specs.Prelude.{ℕ, ◌+◌, ◌*◌, ◌≤◌, ◌<◌, Bool, true, false, ◌||◌, not, ◌⊎◌, List, [], ◌∷◌, ◌++◌, ◌≡◌, eqb, ℤ, length}
use Rattle.constellation.specs.DemapByLayout.{Demaps}
use Rattle.constellation.specs.Layouts.{silent_layout, ToneLayout}
use Rattle.frame.specs.Labels.{bits_of_labels, Within, labels_at, Rising}
use Rattle.frame.specs.Written.{written, Waits, bits_put}
use Rattle.frame.specs.declared.BitWriter.{BitWriter}
use Rattle.g9932.specs.Bits.{num, or_at}
use Rattle.g9932.specs.Filler.{drawn, after_draws}
use Rattle.g9932.specs.Order.{sum}
use Rattle.g9932.specs.Sizes.{entry, Point, point, point_at}
use Rattle.mapper.specs.Writing.{FillerNeeds}
use Rattle.mapper.specs.declared.read.FillerRead.{FillerRead}

-- ---- points

pub record DemapNeeds (layouts : List ℕ) (xs ys : List ℤ) : Type 0 where
  pub layouts_length : length layouts ≡ length xs
  pub ys_length : length ys ≡ length xs
  pub of_tones : (i : ℕ) → i < length xs → ToneLayout (entry layouts i)

pub record DemapAllNeeds (layouts : List ℕ) (xs ys : List ℤ) (labels : List ℕ) : Type 0 where
  pub points : DemapNeeds layouts xs ys
  pub labels_length : length labels ≡ length xs

-- l is the label of a point that a tone of this layout can have; or it can't have it
abbrev pub LabelIs : ℕ → Point → ℕ → Type 0
LabelIs layout p l = Demaps layout p (Some l)

abbrev pub Off : ℕ → Point → Type 0
Off layout p = Demaps layout p None

-- what is told of each point: its label, or that it has none
abbrev pub Told : List ℕ → List ℤ → List ℤ → List ℕ → ℕ → Type 0
Told layouts xs ys labels i = LabelIs (entry layouts i) (point_at xs ys i) (entry labels i) ⊎ Off (entry layouts i) (point_at xs ys i)

-- every point has its label, or one has none
pub record DemapsAll (layouts : List ℕ) (xs ys : List ℤ) (labels : List ℕ) (all : Bool) : Type 0 where
  pub each : (i : ℕ) → i < length xs → Told layouts xs ys labels i
  pub every : all ≡ true → (i : ℕ) → i < length xs → LabelIs (entry layouts i) (point_at xs ys i) (entry labels i)
  pub some : all ≡ false → (i : ℕ) × (i < length xs) × Off (entry layouts i) (point_at xs ys i)
  pub labels_length : length labels ≡ length xs

abbrev pub OnOrOff : ℕ → Point → Bool → Type 0
OnOrOff layout p true = (l : ℕ) × LabelIs layout p l
OnOrOff layout p false = Off layout p

-- the first place whose point is off, those before it being on
abbrev pub OffAt : List ℕ → List ℤ → List ℤ → Option ℕ → Type 0
OffAt layouts xs ys (Some k) =
    (k < length xs) × Off (entry layouts k) (point_at xs ys k) × ((i : ℕ) → i < k → (l : ℕ) × LabelIs (entry layouts i) (point_at xs ys i) l)
OffAt layouts xs ys None = (i : ℕ) → i < length xs → (l : ℕ) × LabelIs (entry layouts i) (point_at xs ys i) l

pub record DemapsPoints (layouts : List ℕ) (xs ys : List ℤ) (labels : List ℕ) (r : Option ℕ) : Type 0 where
  pub off : OffAt layouts xs ys r
  pub labelled : r ≡ None → (i : ℕ) → i < length xs → LabelIs (entry layouts i) (point_at xs ys i) (entry labels i)
  pub labels_length : length labels ≡ length xs

-- ---- filler bits

pub record CheckNeeds (ds layouts labels : List ℕ) : Type 0 where
  pub filler : FillerNeeds ds labels
  pub layouts_length : length layouts ≡ length labels

-- a label is the two bits that are drawn; or the tone is silent, and they are thrown away
abbrev pub passes_filler : ℕ → ℕ → ℕ → Bool
passes_filler layout l two = eqb layout silent_layout || eqb l two

-- the first of the places that draw that does not pass, each with the next two filler bits
unfoldable pub wrong_filler : ℕ → List ℕ → List ℕ → List ℕ → Option ℕ → Option ℕ
wrong_filler r [] layouts ls found = found
wrong_filler r (p ∷ ds) layouts ls found =
    wrong_filler (after_draws 2 r) ds layouts ls (or_at found (not (passes_filler (entry layouts p) (entry ls p) (num (drawn 2 r)))) p)

pub record ChecksFiller (ds layouts : List ℕ) (r : ℕ) (labels : List ℕ) (f : FillerRead) : Type 0 where
  pub monitor_is : f.monitor ≡ wrong_filler r ds layouts labels None
  pub register_is : f.register ≡ after_draws (2 * length ds) r

-- ---- labels that two tones of 1 bit share

-- the labels of two places become one at the first
abbrev pub join_ones : List ℕ → List ℕ
join_ones [] = []
join_ones (a ∷ []) = a ∷ []
join_ones (a ∷ b ∷ ls) = (a + 2 * b) ∷ b ∷ join_ones ls

pub record JoinNeeds (labels : List ℕ) (from : ℕ) : Type 0 where
  pub inside : from ≤ length labels
  pub ones : (i : ℕ) → from ≤ i → i < length labels → entry labels i < 2

-- ---- labels to frame bits

pub record CollectNeeds (w : BitWriter) (es ps labels frame : List ℕ) : Type 0 where
  pub same : length ps ≡ length es
  pub counts : (k : ℕ) → entry es k ≤ 15
  pub places : Rising ps (length labels)
  pub within : Within es (labels_at ps labels) (length es)
  pub bytes : bits_put w + sum es + 64 ≤ 8 * length frame
  pub waits : Waits w

pub record CollectsLabels (w : BitWriter) (es ps labels frame : List ℕ) (v : BitWriter) (after : List ℕ) : Type 0 where
  pub whole : written v after ≡ written w frame ++ bits_of_labels es (labels_at ps labels)
  pub waits : Waits v
  pub counted : bits_put v ≡ bits_put w + sum es
