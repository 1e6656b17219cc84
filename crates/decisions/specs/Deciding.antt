-- What the labels of each place and of each entry cost, and labels decided by it: coded along the survivors of the trellis, uncoded place
-- by place.
use Rattle.std.specs.Prelude.{ℕ, zero, suc, ◌+◌, ◌*◌, ◌/◌, ◌%◌, ◌^◌, ◌≤◌, ◌<◌, Bool, true, false, List, [], ◌∷◌, ◌++◌, ◌≡◌, ltb, ℤ, pos, length, get_or}
use Rattle.constellation.specs.Layouts.{layout_of, ToneLayout}
use Rattle.cosets.specs.Meters.{Meter, tone_meter, cost_of, LeastOf, CosetLabel, PointOfLabel, BestLabel, LabelOf, shared_costs, LeastCoset}
use Rattle.cosets.specs.Nearest.{InRange, OneCostsOf, SmallCosts}
use Rattle.cosets.specs.declared.Costs.{Costs}
use Rattle.frame.specs.Labels.{Rising}
use Rattle.g9932.specs.Bits.{weight, odd, bits}
use Rattle.g9932.specs.Order.{is_one}
use Rattle.g9932.specs.Sizes.{entry, Point, origin, most_tones, point_at}
use Rattle.g9932.specs.Trellis.{zero_state}
use Rattle.g9932.specs.declared.LowBits.{LowBits}
use Rattle.paths.specs.Frames.{PairMeter, Matches}
use Rattle.paths.specs.Paths.{Branch, Shortest}
use Rattle.paths.specs.Survivors.{follow, state_at, low_at, Surviving}
use Rattle.trellis.specs.Steps.{state_at as state_of}
use Rattle.decisions.specs.CostLists.{costs_of}
use Rattle.decisions.specs.Entries.{meter_at}
use Rattle.decisions.specs.declared.cost_lists.CostLists.{CostLists}

-- ---- by place

-- every place has a tone's layout and a point in range
pub record PlaceNeeds (layouts : List ℕ) (xs ys : List ℤ) : Type 0 where
  pub layouts_length : length layouts ≡ length xs
  pub ys_length : length ys ≡ length xs
  pub of_tones : (i : ℕ) → i < length xs → ToneLayout (entry layouts i)
  pub x_in_range : (i : ℕ) → i < length xs → InRange (get_or xs i (pos 0))
  pub y_in_range : (i : ℕ) → i < length xs → InRange (get_or ys i (pos 0))
  pub few : length xs ≤ most_tones

-- what a tone that was received at p costs, whatever its bits
pub record PlaceCosts (layout : ℕ) (p : Point) (r : Costs) : Type 0 where
  pub tone : (b : ℕ) → 2 ≤ b → b ≤ 15 → layout ≡ layout_of b → LeastOf (tone_meter b p) (cost_of r)
  pub one : layout ≡ layout_of 1 → OneCostsOf p r
  pub small : SmallCosts r

-- of the first n places
pub record Costed (layouts : List ℕ) (q : List Point) (ks : CostLists) (n : ℕ) : Type 0 where
  pub costs : (i : ℕ) → i < n → PlaceCosts (entry layouts i) (get_or q i origin) (costs_of ks i)

-- ---- by entry: those of its tone, or of the two that share it

abbrev pub cost_by : Bool → CostLists → ℕ → Costs
cost_by true ks p = costs_of ks p
cost_by false ks p = shared_costs (costs_of ks p) (costs_of ks (p + 1))

abbrev pub entry_costs : ℕ → List ℕ → CostLists → ℕ → Costs
entry_costs from ps ks k = cost_by (ltb (entry ps k) from) ks (entry ps k)

-- the entries' places, a shared one with the next, are in the lists
pub record EntryNeeds (from : ℕ) (ps : List ℕ) : Type 0 where
  pub inside : (k : ℕ) → k < length ps → entry ps k < most_tones
  pub shared_inside : (k : ℕ) → k < length ps → from ≤ entry ps k → suc (entry ps k) < most_tones

-- ---- entries in pairs, the first with x = 0 where their number is odd

abbrev pub meters_in_twos : List Meter → List PairMeter
meters_in_twos [] = []
meters_in_twos (a ∷ []) = []
meters_in_twos (a ∷ b ∷ ms) = record { v = a; w = b } ∷ meters_in_twos ms

-- no entry: no bits, no cost
abbrev pub no_meter : Meter
no_meter = record { bits = 0; cost = λ v. 0 }

abbrev pub meter_in_front : Bool → List Meter → List Meter
meter_in_front true ms = no_meter ∷ ms
meter_in_front false ms = ms

abbrev pub pair_meters : List Meter → List PairMeter
pair_meters ms = meters_in_twos (meter_in_front (is_one (length ms % 2)) ms)

-- 1 where the first pair has x = 0
abbrev pub lone_in : List ℕ → ℕ
lone_in ps = length ps % 2

-- the entries' costs are those of these meters, of at least 2 bits each
pub record MeterCosts (ms : List Meter) (from : ℕ) (ps : List ℕ) (ks : CostLists) : Type 0 where
  pub count : length ms ≡ length ps
  pub bits_least : (k : ℕ) → k < length ms → 2 ≤ (get_or ms k no_meter).bits
  pub costs : (k : ℕ) → k < length ms → LeastOf (get_or ms k no_meter) (cost_of (entry_costs from ps ks k))

-- ---- add, compare, select

-- 16 survivors a pair
pub record PathNeeds (from : ℕ) (ps σ : List ℕ) : Type 0 where
  pub entries : EntryNeeds from ps
  pub enough : 4 ≤ length ps
  pub many : length ps ≤ most_tones
  pub sixteens : length σ ≡ 16 * ((length ps + 1) / 2)

-- from each state of pair j the survivors give a shortest path over the pairs of the entries' meters
pub record Selected (ms : List Meter) (j : ℕ) (σ m : List ℕ) : Type 0 where
  pub branches : List Branch
  pub count : 2 * length branches ≡ length ms
  pub surviving : Surviving branches j σ m
  pub matches : Matches (meters_in_twos ms) branches

-- the survivors give a shortest path from the zero state, and n is its cost
pub record LeastPath (ms : List PairMeter) (σ : List ℕ) (n : ℕ) : Type 0 where
  pub branches : List Branch
  pub count : length branches ≡ length ms
  pub shortest : Shortest zero_state branches (follow σ (length branches) 0 zero_state) n
  pub matches : Matches ms branches

-- ---- following the survivors

-- the lowest bits of a pair's first or second label
abbrev pub upper_by : ℕ → LowBits → Bool
upper_by zero l = l.v1
upper_by (suc n) l = l.w1

abbrev pub lower_by : ℕ → LowBits → Bool
lower_by zero l = l.v0
lower_by (suc n) l = l.w0

-- of entry t, counting the zero in front
abbrev pub upper_at : List ℕ → ℕ → Bool
upper_at σ t = upper_by (t % 2) (low_at σ (t / 2))

abbrev pub lower_at : List ℕ → ℕ → Bool
lower_at σ t = lower_by (t % 2) (low_at σ (t / 2))

-- as a number
abbrev pub low_number : Bool → Bool → ℕ
low_number v1 v0 = weight v0 + 2 * weight v1

pub record TraceNeeds (ps σ labels : List ℕ) : Type 0 where
  pub rising : Rising ps (length labels)
  pub enough : 4 ≤ length ps
  pub many : length ps ≤ most_tones
  pub sixteens : length σ ≡ 16 * ((length ps + 1) / 2)

-- n is the number of the state before pair j
pub record StateBefore (σ : List ℕ) (j n : ℕ) : Type 0 where
  pub is : state_of n ≡ state_at σ j

-- the first n entries have the lowest bits that the survivors give, at their places
pub record LowTraced (ps σ labels : List ℕ) (n : ℕ) : Type 0 where
  pub low : (k : ℕ) → k < n → entry labels (entry ps k) ≡ low_number (upper_at σ (lone_in ps + k)) (lower_at σ (lone_in ps + k))

-- l is a nearest label of its coset, as a number
pub record CosetNumber (m : Meter) (v1 v0 : Bool) (l : ℕ) : Type 0 where
  pub small : l < 2 ^ m.bits
  pub nearest : CosetLabel m v1 v0 (bits m.bits l)

-- the labels of the first n entries are nearest ones, with the lowest bits that the survivors give
pub record Traced (from : ℕ) (es ps : List ℕ) (q : List Point) (σ labels : List ℕ) (n : ℕ) : Type 0 where
  pub decided : (k : ℕ) → k < n → CosetNumber (meter_at from q es ps k) (upper_at σ (lone_in ps + k)) (lower_at σ (lone_in ps + k)) (entry labels (entry ps k))

-- ---- labels from their two lowest bits

-- a nearest label with the lowest bits of `low`, whatever the tone's bits; of 1 bit, `low` itself
pub record PlaceLabel (layout : ℕ) (p : Point) (low r : ℕ) : Type 0 where
  pub tone : (b : ℕ) → 2 ≤ b → b ≤ 15 → layout ≡ layout_of b → (r < 2 ^ b) × CosetLabel (tone_meter b p) (odd (low / 2)) (odd low) (bits b r)
  pub one : layout ≡ layout_of 1 → r ≡ low

-- by its point: q is that of such a label
abbrev pub PlacePoint : ℕ → Point → ℕ → Point → Type 0
PlacePoint layout p low q =
    (b : ℕ) → 2 ≤ b → b ≤ 15 → layout ≡ layout_of b → PointOfLabel b q (CosetLabel (tone_meter b p) (odd (low / 2)) (odd low))

pub record PointNeeds (layouts : List ℕ) (xs ys : List ℤ) (lows : List ℕ) (near_xs near_ys : List ℤ) : Type 0 where
  pub places : PlaceNeeds layouts xs ys
  pub lows_length : length lows ≡ length xs
  pub xs_length : length near_xs ≡ length xs
  pub ys_length : length near_ys ≡ length xs

-- of the first n places
pub record PlacePoints (layouts : List ℕ) (q : List Point) (lows : List ℕ) (near_xs near_ys : List ℤ) (n : ℕ) : Type 0 where
  pub near : (i : ℕ) → i < n → PlacePoint (entry layouts i) (get_or q i origin) (entry lows i % 4) (point_at near_xs near_ys i)
  pub xs_length : length near_xs ≡ length lows
  pub ys_length : length near_ys ≡ length lows

pub record PutNeeds (layouts found labels : List ℕ) : Type 0 where
  pub layouts_length : length layouts ≡ length labels
  pub found_length : length found ≡ length labels

-- of the first n places
pub record PutsLabels (layouts found lows labels : List ℕ) (n : ℕ) : Type 0 where
  pub put : (i : ℕ) → i < n → LabelOf (entry layouts i) (entry found i) (entry lows i % 4) (entry labels i)
  pub kept : (i : ℕ) → n ≤ i → entry labels i ≡ entry lows i
  pub labels_length : length labels ≡ length lows

pub record LabelNeeds (layouts : List ℕ) (xs ys : List ℤ) (labels : List ℕ) : Type 0 where
  pub places : PlaceNeeds layouts xs ys
  pub labels_length : length labels ≡ length xs

-- of the first n places
pub record PlaceLabels (layouts : List ℕ) (q : List Point) (lows labels : List ℕ) (n : ℕ) : Type 0 where
  pub labelled : (i : ℕ) → i < n → PlaceLabel (entry layouts i) (get_or q i origin) (entry lows i % 4) (entry labels i)
  pub labels_length : length labels ≡ length lows

-- ---- uncoded: the nearest coset of each place

pub record LeastNeeds (layouts labels : List ℕ) : Type 0 where
  pub labels_length : length labels ≡ length layouts
  pub few : length layouts ≤ most_tones

-- the nearest coset of a place, by its lowest bits and its cost
abbrev pub LeastAt : List ℕ → CostLists → List ℕ → List ℕ → ℕ → Type 0
LeastAt layouts ks lows costs i = LeastCoset (entry layouts i) (costs_of ks i) (record { low = entry lows i; cost = entry costs i })

-- of the first n places; the others have the first coset's cost
pub record LeastPlaces (layouts : List ℕ) (ks : CostLists) (lows : List ℕ) (after : CostLists) (n : ℕ) : Type 0 where
  pub least : (i : ℕ) → i < n → LeastAt layouts ks lows after.c0 i
  pub kept : (i : ℕ) → n ≤ i → costs_of after i ≡ costs_of ks i
  pub lows_length : length lows ≡ length layouts

-- entries at places below n
pub record PlacesBelow (ps : List ℕ) (n : ℕ) : Type 0 where
  pub below : (k : ℕ) → k < length ps → entry ps k < n
  pub many : length ps ≤ most_tones

-- the costs at the entries' places, added up
abbrev pub total_at : List ℕ → List ℕ → ℕ
total_at costs [] = 0
total_at costs (p ∷ ps) = entry costs p + total_at costs ps

pub record ToneNeeds (layouts ps labels : List ℕ) : Type 0 where
  pub places : LeastNeeds layouts labels
  pub entries : PlacesBelow ps (length layouts)

-- the lowest bits of the nearest cosets, and what those of the entries cost
pub record LeastLows (layouts ps : List ℕ) (ks : CostLists) (lows : List ℕ) (n : ℕ) : Type 0 where
  pub costs : List ℕ
  pub least : (i : ℕ) → i < length layouts → LeastAt layouts ks lows costs i
  pub total : n ≡ total_at costs ps

-- nearest labels one after the other, as bits, and their cost
pub data BestAll : List Meter → List Bool → ℕ → Type 0 where
  none : BestAll [] [] 0
  more : {m : Meter} {ms : List Meter} {v d : List Bool} {c n : ℕ} → BestLabel m v c → BestAll ms d n → BestAll (m ∷ ms) (v ++ d) (c + n)
