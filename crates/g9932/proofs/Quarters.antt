-- Points turned by quarters to the left. Of the coordinates' bits, those of Y come to X complemented, and those of X to Y. Of a label's, from
-- 2 bits on, in every two, lowest first, the upper one comes to the lower one's place, and the lower one's complement to the upper one's; the
-- top bit of an odd number stays. Half a turn is two quarters, a quarter to the right is three.
use Rattle.std.specs.Prelude.{None}
use Prim.Native.Nat.{ℕ, zero, suc, ◌≤◌}
use mathlib.Core.Bool.{Bool, true, false, not, ◌&&◌, cond}
use mathlib.Core.List.{List, [], ◌∷◌, map}
use mathlib.Core.Path.{◌≡◌, refl, sym, ap, ◌∙◌}
use native.Mathlib.Omega.{arith}
use lib.ListN.{length}
use Rattle.g9932.specs.Bits.{◌⊕◌, bit, weight, num, odd, bits}
use Rattle.g9932.specs.Points.{point_of, turned_left, quarters, low_quarters, seek, label_of}
use Rattle.g9932.specs.Trellis.{same}
use Rattle.g9932.proofs.Identities.{bits_agree, words_agree, xor_false, xor_not}
use Rattle.g9932.proofs.Coordinates.{Axes, axes, axes_path, push, three, five, coords, coords_length, axis_bits_pos}
use Rattle.g9932.proofs.Constellations.{axes_point, point_coords}
use Rattle.g9932.proofs.Turns.{Turn}
use Rattle.g9932.proofs.TwosComplement.{twos_not}

-- ---- one quarter

abbrev quarter_label : List Bool → List Bool
quarter_label [] = []
quarter_label (a ∷ []) = a ∷ []
quarter_label (a ∷ b ∷ l) = b ∷ not a ∷ quarter_label l

length_quarter : (l : List Bool) → length (quarter_label l) ≡ length l
length_quarter [] = refl
length_quarter (a ∷ []) = refl
length_quarter (a ∷ b ∷ l) = ap (λ (n : ℕ). suc (suc n)) (length_quarter l)

abbrev quartered : Axes → Axes
quartered a = axes (map not a.ys) a.xs

three_quarter : (a b c : Bool) → three b (not a) c ≡ quartered (three a b c)
unfolding three
three_quarter a b c =
    axes_path (words_agree 3 (λ a b c. (three b (not a) c).xs) (λ a b c. (quartered (three a b c)).xs) refl a b c)
    (words_agree 3 (λ a b c. (three b (not a) c).ys) (λ a b c. (quartered (three a b c)).ys) refl a b c)

five_quarter : (a b c d e : Bool) → five b (not a) d (not c) e ≡ quartered (five a b c d e)
unfolding five weight num odd bits
five_quarter a b c d e =
    axes_path (words_agree 5 (λ a b c d e. (five b (not a) d (not c) e).xs) (λ a b c d e. (quartered (five a b c d e)).xs) refl a b c d e)
    (words_agree 5 (λ a b c d e. (five b (not a) d (not c) e).ys) (λ a b c d e. (quartered (five a b c d e)).ys) refl a b c d e)

coords_quarter : (l : List Bool) → 2 ≤ length l → coords (quarter_label l) ≡ quartered (coords l)
coords_quarter [] h = absurd (omega arith)
coords_quarter (a ∷ []) h = absurd (omega arith)
coords_quarter (a ∷ b ∷ []) h = refl
coords_quarter (a ∷ b ∷ c ∷ []) h = three_quarter a b c
coords_quarter (a ∷ b ∷ c ∷ d ∷ []) h = refl
coords_quarter (a ∷ b ∷ c ∷ d ∷ e ∷ []) h = five_quarter a b c d e
coords_quarter (a ∷ b ∷ c ∷ d ∷ e ∷ f ∷ l) h = ap (push b (not a)) (coords_quarter (c ∷ d ∷ e ∷ f ∷ l) (omega arith))

point_quarter : (b : ℕ) (v : List Bool) → 2 ≤ b → length v ≡ b → turned_left (point_of b v) ≡ point_of b (quarter_label v)
point_quarter b v h l =
    let k = coords_length v in
    let n = axis_bits_pos (length v) (omega arith) in
    let e : point_of b v ≡ axes_point (coords v) = rw l at (point_coords v) in
    let f : point_of b (quarter_label v) ≡ axes_point (coords (quarter_label v)) = rw (length_quarter v, l) at (point_coords (quarter_label v)) in
    rw (e, f, coords_quarter v (omega arith), twos_not (coords v).ys (omega arith))

-- ---- several

abbrev quarter_labels : ℕ → List Bool → List Bool
quarter_labels zero l = l
quarter_labels (suc n) l = quarter_labels n (quarter_label l)

-- the label of a point so turned; of 1 bit it says so for half a turn alone, by which it is the other one
abbrev pub turned_label : ℕ → List Bool → List Bool
turned_label n [] = []
turned_label n (a ∷ []) = not a ∷ []
turned_label n (a ∷ b ∷ l) = quarter_labels n (a ∷ b ∷ l)

length_quarters : (n : ℕ) (l : List Bool) → length (quarter_labels n l) ≡ length l
length_quarters zero l = refl
length_quarters (suc n) l = length_quarters n (quarter_label l) ∙ length_quarter l

pub length_turned : (n : ℕ) (l : List Bool) → length (turned_label n l) ≡ length l
length_turned n [] = refl
length_turned n (a ∷ []) = refl
length_turned n (a ∷ b ∷ l) = length_quarters n (a ∷ b ∷ l)

point_quarters : (n b : ℕ) (v : List Bool) → 2 ≤ b → length v ≡ b → quarters n (point_of b v) ≡ point_of b (quarter_labels n v)
point_quarters zero b v h l = refl
point_quarters (suc n) b v h l = ap (quarters n) (point_quarter b v h l) ∙ point_quarters n b (quarter_label v) h (length_quarter v ∙ l)

-- from 2 bits on every point so turned has a label
pub point_turned : (n b : ℕ) (v : List Bool) → 2 ≤ b → length v ≡ b → quarters n (point_of b v) ≡ point_of b (turned_label n v)
point_turned n b [] h l = absurd (omega arith)
point_turned n b (x ∷ []) h l = absurd (omega arith)
point_turned n b (x ∷ y ∷ v) h l = point_quarters n b (x ∷ y ∷ v) h l

-- a 1-bit point has one after half a turn
one_turned : (v : List Bool) → length v ≡ 1 → quarters 2 (point_of 1 v) ≡ point_of 1 (turned_label 2 v)
unfolding point_of num weight
one_turned [] h = absurd (omega arith)
one_turned (true ∷ []) h = refl
one_turned (false ∷ []) h = refl
one_turned (a ∷ b ∷ v) h = absurd (omega arith)

pub point_opposite : (b : ℕ) (v : List Bool) → 1 ≤ b → length v ≡ b → quarters 2 (point_of b v) ≡ point_of b (turned_label 2 v)
point_opposite zero v h l = absurd (omega arith)
point_opposite (suc zero) v h l = one_turned v l
point_opposite (suc (suc b)) v h l = point_turned 2 (suc (suc b)) v (omega arith) l

-- and none after a quarter, either way
pub one_left : (v : List Bool) → length v ≡ 1 → label_of 1 (quarters 1 (point_of 1 v)) ≡ None
unfolding seek point_of num weight
one_left [] h = absurd (omega arith)
one_left (true ∷ []) h = refl
one_left (false ∷ []) h = refl
one_left (a ∷ b ∷ v) h = absurd (omega arith)

pub one_right : (v : List Bool) → length v ≡ 1 → label_of 1 (quarters 3 (point_of 1 v)) ≡ None
one_right v h = ap (λ p. label_of 1 (quarters 1 p)) (one_turned v h) ∙ one_left (turned_label 2 v) (length_turned 2 v ∙ h)

-- ---- what the code sees of it

lowest_quarter : (v : List Bool) → 2 ≤ length v → (bit (quarter_label v) 0 ≡ bit v 1) × (bit (quarter_label v) 1 ≡ not (bit v 0))
lowest_quarter [] h = absurd (omega arith)
lowest_quarter (a ∷ []) h = absurd (omega arith)
lowest_quarter (a ∷ b ∷ v) h = (refl, refl)

lowest_quarters : (n : ℕ) (v : List Bool) → 2 ≤ length v
    → (bit (quarter_labels n v) 0 ≡ (low_quarters n (bit v 0) (bit v 1)).0) × (bit (quarter_labels n v) 1 ≡ (low_quarters n (bit v 0) (bit v 1)).1)
lowest_quarters zero v h = (refl, refl)
lowest_quarters (suc n) v h =
    let e = lowest_quarter v h in
    rw (e.0, e.1) at (lowest_quarters n (quarter_label v) (rw (length_quarter v) h))

pub lowest_turned : (n : ℕ) (v : List Bool) → 2 ≤ length v
    → (bit (turned_label n v) 0 ≡ (low_quarters n (bit v 0) (bit v 1)).0) × (bit (turned_label n v) 1 ≡ (low_quarters n (bit v 0) (bit v 1)).1)
lowest_turned n [] h = absurd (omega arith)
lowest_turned n (a ∷ []) h = absurd (omega arith)
lowest_turned n (a ∷ b ∷ v) h = lowest_quarters n (a ∷ b ∷ v) h

-- each quarter makes v0 xor v1 the other bit
abbrev pub oddly : ℕ → Bool
oddly zero = false
oddly (suc n) = not (oddly n)

other_parity : (f a b : Bool) → b ⊕ not a ⊕ f ≡ a ⊕ b ⊕ not f
other_parity = bits_agree 3 (λ f a b. b ⊕ not a ⊕ f) (λ f a b. a ⊕ b ⊕ not f) refl

pub parity_turned : (n : ℕ) (a b : Bool) → (low_quarters n a b).0 ⊕ (low_quarters n a b).1 ≡ a ⊕ b ⊕ oddly n
parity_turned zero a b = sym (xor_false (a ⊕ b))
parity_turned (suc n) a b = parity_turned n b (not a) ∙ other_parity (oddly n) a b

pub each_quarter : (n : ℕ) (a b : Bool) → (low_quarters (suc n) a b).0 ⊕ (low_quarters (suc n) a b).1 ≡ not ((low_quarters n a b).0 ⊕ (low_quarters n a b).1)
each_quarter n a b = parity_turned (suc n) a b ∙ xor_not (a ⊕ b) (oddly n) ∙ ap not (sym (parity_turned n a b))

-- v0 of two labels xored is v1 of them xored after an odd number of quarters, and stays after an even one
crossed : (f a b c d : Bool) → cond f (not a ⊕ not c) (b ⊕ d) ≡ cond (not f) (b ⊕ d) (a ⊕ c)
crossed = bits_agree 5 (λ f a b c d. cond f (not a ⊕ not c) (b ⊕ d)) (λ f a b c d. cond (not f) (b ⊕ d) (a ⊕ c)) refl

pub lower_turned : (n : ℕ) (a b c d : Bool) → (low_quarters n a b).0 ⊕ (low_quarters n c d).0 ≡ cond (oddly n) (b ⊕ d) (a ⊕ c)
lower_turned zero a b c d = refl
lower_turned (suc n) a b c d = lower_turned n b (not a) d (not c) ∙ crossed (oddly n) a b c d

-- a turn by n quarters, where they move the two lowest bits
abbrev pub turn_by : (n : ℕ) → ((a b : Bool) → same (low_quarters n a b).0 a && same (low_quarters n a b).1 b ≡ false) → Turn
turn_by n moves =
    record {
      word = turned_label n;
      low = low_quarters n;
      flips = oddly n;
      same_length = length_turned n;
      lowest = lowest_turned n;
      parity = parity_turned n;
      moves = moves;
      lower = lower_turned n;
    }

abbrev pub quarter_left : Turn
quarter_left = turn_by 1 (bits_agree 2 (λ a b. same b a && same (not a) b) (λ a b. false) refl)

abbrev pub half : Turn
half = turn_by 2 (bits_agree 2 (λ a b. same (not a) a && same (not b) b) (λ a b. false) refl)

abbrev pub quarter_right : Turn
quarter_right = turn_by 3 (bits_agree 2 (λ a b. same (not b) a && same (not (not a)) b) (λ a b. false) refl)
