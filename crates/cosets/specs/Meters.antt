-- What the labels of an entry cost: the squared distances of their points from received ones.
use Rattle.std.specs.Prelude.{Some}
use Rattle.std.specs.Prelude.{ℕ, ◌+◌, ◌*◌, ◌/◌, ◌≤◌, ◌<◌, Bool, List, [], ◌∷◌, ◌≡◌, length, take, drop, get_or}
use Rattle.constellation.specs.Layouts.{layout_of}
use Rattle.g9932.specs.Bits.{bit, weight, odd}
use Rattle.g9932.specs.Nearest.{squared_distance}
use Rattle.g9932.specs.Points.{point_of, label_of}
use Rattle.g9932.specs.Sizes.{Point}
use Rattle.cosets.specs.declared.Costs.{Costs}
use Rattle.cosets.specs.declared.Coset.{Coset}
use Rattle.cosets.specs.declared.given.Received.{Received}
use Rattle.cosets.specs.Nearest.{IsReceived, OneCostsOf, SmallCosts}

-- how many bits an entry's labels have, and what each of them costs
pub record Meter : Type 0 where
  pub bits : ℕ
  pub cost : List Bool → ℕ

-- of a tone with n bits that was received at p
abbrev pub tone_meter : ℕ → Point → Meter
tone_meter n p = record { bits = n; cost = λ v. squared_distance p (point_of n v) }

-- of two tones that share an entry: the first has its lowest bit
abbrev pub shared : Meter → Meter → Meter
shared a b = record { bits = 2; cost = λ v. a.cost (take 1 v) + b.cost (take 1 (drop 1 v)) }

-- the four numbers, by the number (v1 v0) of a label's two lowest bits
abbrev pub cost_of : Costs → ℕ → ℕ
cost_of c i = get_or (c.c0 ∷ c.c1 ∷ c.c2 ∷ c.c3 ∷ []) i 0

-- the two of a 1-bit tone, by its bit
abbrev pub bit_cost : Costs → ℕ → ℕ
bit_cost c i = get_or (c.c0 ∷ c.c3 ∷ []) i 0

-- c is the least cost of the labels, by their two lowest bits
pub record LeastOf (m : Meter) (c : ℕ → ℕ) : Type 0 where
  pub label : Bool → Bool → List Bool
  pub size : (v1 v0 : Bool) → length (label v1 v0) ≡ m.bits
  pub low1 : (v1 v0 : Bool) → bit (label v1 v0) 1 ≡ v1
  pub low0 : (v1 v0 : Bool) → bit (label v1 v0) 0 ≡ v0
  pub is : (v1 v0 : Bool) → m.cost (label v1 v0) ≡ c (weight v0 + 2 * weight v1)
  pub least : (w : List Bool) → length w ≡ m.bits → c (weight (bit w 0) + 2 * weight (bit w 1)) ≤ m.cost w

-- v is a label with the lowest bits v1 v0, and no such label costs less
pub record CosetLabel (m : Meter) (v1 v0 : Bool) (v : List Bool) : Type 0 where
  pub size : length v ≡ m.bits
  pub low1 : bit v 1 ≡ v1
  pub low0 : bit v 0 ≡ v0
  pub least : (w : List Bool) → length w ≡ m.bits → bit w 1 ≡ v1 → bit w 0 ≡ v0 → m.cost v ≤ m.cost w

-- v is a label that costs n, and no label costs less
pub record BestLabel (m : Meter) (v : List Bool) (n : ℕ) : Type 0 where
  pub size : length v ≡ m.bits
  pub cost : m.cost v ≡ n
  pub least : (w : List Bool) → length w ≡ m.bits → n ≤ m.cost w

-- ---- by layout, whatever the bits are that it is the layout of

-- the costs of a tone; of 1 bit those of its bit
pub record CostsBy (layout : ℕ) (s : Received) (r : Costs) : Type 0 where
  pub tone : (b : ℕ) → 2 ≤ b → b ≤ 15 → layout ≡ layout_of b → (p : Point) → IsReceived p s → LeastOf (tone_meter b p) (cost_of r)
  pub one : layout ≡ layout_of 1 → (p : Point) → IsReceived p s → OneCostsOf p r
  pub small : SmallCosts r

-- q is the point of a label
abbrev pub PointOfLabel : ℕ → Point → (List Bool → Type 0) → Type 0
PointOfLabel b q has = (v : List Bool) × (label_of b q ≡ Some v) × has v

-- a nearest point of the coset with the two lowest bits `low`
pub record PointBy (layout : ℕ) (s : Received) (low : ℕ) (q : Point) : Type 0 where
  pub tone : (b : ℕ) → 2 ≤ b → b ≤ 15 → layout ≡ layout_of b → (p : Point) → IsReceived p s
      → PointOfLabel b q (CosetLabel (tone_meter b p) (odd (low / 2)) (odd low))

-- the label that is found for a tone's point; of 1 bit, the two lowest bits themselves
pub record LabelOf (layout found low r : ℕ) : Type 0 where
  pub tone : (layout ≡ layout_of 1 → ⊥) → r ≡ found
  pub one : layout ≡ layout_of 1 → r ≡ low

-- two tones that share an entry
abbrev pub shared_costs : Costs → Costs → Costs
shared_costs v w = record { c0 = v.c0 + w.c0; c1 = v.c3 + w.c0; c2 = v.c0 + w.c3; c3 = v.c3 + w.c3 }

-- the coset of the least cost among the first n
pub record LeastAmong (n : ℕ) (cost : ℕ → ℕ) (r : Coset) : Type 0 where
  pub small : r.low < n
  pub is : r.cost ≡ cost r.low
  pub least : (i : ℕ) → i < n → r.cost ≤ cost i

-- of a tone; of 1 bit, its bit
pub record LeastCoset (layout : ℕ) (c : Costs) (r : Coset) : Type 0 where
  pub tone : (layout ≡ layout_of 1 → ⊥) → LeastAmong 4 (cost_of c) r
  pub one : layout ≡ layout_of 1 → LeastAmong 2 (bit_cost c) r
