-- Bits moved by shifts and masks. A step on a number is a step on the list of its bits, and a chain of steps on a list of
-- unknown bits computes: a place of the list is known to be empty, or holds a bit.
use Prim.Native.Nat.{ℕ, zero, suc, ◌+◌, ◌*◌, ◌/◌, ◌%◌, ◌^◌, ◌<◌, min, max}
use mathlib.Core.Bool.{Bool, true, false, ◌||◌}
use mathlib.Core.List.{List, [], ◌∷◌, ◌++◌, map}
use mathlib.Core.Path.{◌≡◌, refl, sym, ap, ◌∙◌}
use native.Mathlib.Nat.{mod-eq_of_lt, mul_comm, mul_assoc, one-mul, pow-suc}
use native.Mathlib.Omega.{arith}
use lib.Bits.{bit_and, bit_or, and_step, or_step, and_zero_r, or_zero_r}
use lib.ListN.{length, take, drop, replicate}
use lib.Pow.{shl_exact}
use Rattle.g9932.specs.Bits.{weight, num, odd, bits}
use Rattle.g9932.proofs.Lists.{map_take}
use Rattle.g9932.proofs.Words.{half_weight, weight_le, num_bits, num_append, num_take, num_drop}

pub data Slot : Type 0 where
  gap : Slot
  full : Bool → Slot

abbrev value : Slot → Bool
value gap = false
value (full b) = b

-- the number of a list of places
abbrev pub worth : List Slot → ℕ
worth l = num (map value l)

-- ---- masks

abbrev pub masked : List Bool → List Slot → List Slot
masked [] l = []
masked (m ∷ ms) [] = []
masked (true ∷ ms) (s ∷ l) = s ∷ masked ms l
masked (false ∷ ms) (s ∷ l) = gap ∷ masked ms l

mod_weight : (b : Bool) (x : ℕ) → (weight b + 2 * x) % 2 ≡ weight b
mod_weight b x = omega (arith, weight_le b)

min_weight : (s : Slot) (m : Bool) (l : List Slot) (ms : List Bool)
    → worth (masked ms l) * 2 + min (weight (value s)) (weight m) ≡ worth (masked (m ∷ ms) (s ∷ l))
unfolding num weight
min_weight gap true l ms = omega arith
min_weight gap false l ms = omega arith
min_weight (full true) true l ms = omega arith
min_weight (full false) true l ms = omega arith
min_weight (full true) false l ms = omega arith
min_weight (full false) false l ms = omega arith

and_worth : (l : List Slot) (ms : List Bool) → bit_and (worth l) (num ms) ≡ worth (masked ms l)
unfolding num
and_worth [] [] = refl
and_worth [] (m ∷ ms) = refl
and_worth (s ∷ l) [] = and_zero_r (worth (s ∷ l))
and_worth (s ∷ l) (m ∷ ms) =
    and_step (worth (s ∷ l)) (num (m ∷ ms))
    ∙ rw (half_weight (value s) (worth l), half_weight m (num ms), mod_weight (value s) (worth l), mod_weight m (num ms), and_worth l ms) (min_weight s m l ms)

-- ---- two words over each other

abbrev over : Slot → Slot → Slot
over gap t = t
over (full a) gap = full a
over (full a) (full b) = full (a || b)

abbrev either : List Slot → List Slot → List Slot
either [] m = m
either (s ∷ l) [] = s ∷ l
either (s ∷ l) (t ∷ m) = over s t ∷ either l m

max_weight : (s t : Slot) (l m : List Slot) → worth (either l m) * 2 + max (weight (value s)) (weight (value t)) ≡ worth (either (s ∷ l) (t ∷ m))
unfolding num weight
max_weight gap gap l m = omega arith
max_weight gap (full true) l m = omega arith
max_weight gap (full false) l m = omega arith
max_weight (full true) gap l m = omega arith
max_weight (full false) gap l m = omega arith
max_weight (full true) (full true) l m = omega arith
max_weight (full true) (full false) l m = omega arith
max_weight (full false) (full true) l m = omega arith
max_weight (full false) (full false) l m = omega arith

or_worth : (l m : List Slot) → bit_or (worth l) (worth m) ≡ worth (either l m)
unfolding num
or_worth [] m = refl
or_worth (s ∷ l) [] = or_zero_r (worth (s ∷ l))
or_worth (s ∷ l) (t ∷ m) =
    or_step (worth (s ∷ l)) (worth (t ∷ m))
    ∙ rw (half_weight (value s) (worth l), half_weight (value t) (worth m), mod_weight (value s) (worth l), mod_weight (value t) (worth m), or_worth l m) (max_weight s t l m)

-- ---- shifts, of 32 bits

abbrev pub gaps : ℕ → List Slot
gaps k = replicate k gap

map_drop : (k : ℕ) (l : List Slot) → map value (drop k l) ≡ drop k (map value l)
map_drop zero l = refl
map_drop (suc k) [] = refl
map_drop (suc k) (s ∷ l) = map_drop k l

shr_worth : (k : ℕ) (l : List Slot) → worth l / 2 ^ k ≡ worth (drop k l)
shr_worth k l = sym (ap num (map_drop k l) ∙ num_drop k (map value l))

pub twice : (t k : ℕ) → t * 2 ^ suc k ≡ 2 * (t * 2 ^ k)
twice t k = rw (pow-suc 2 k, ← mul_assoc t (2 ^ k) 2, mul_comm (t * 2 ^ k) 2)

pub up_worth : (k : ℕ) (l : List Slot) → worth (gaps k ++ l) ≡ worth l * 2 ^ k
unfolding num weight
up_worth zero l = omega arith
up_worth (suc k) l = omega (arith, up_worth k l, twice (worth l) k)

pub gaps_worth : (k : ℕ) → worth (gaps k) ≡ 0
unfolding num weight
gaps_worth zero = refl
gaps_worth (suc k) = omega (arith, gaps_worth k)

shl_worth : (k : ℕ) (l : List Slot) → worth l * 2 ^ k % 2 ^ 32 ≡ worth (take 32 (gaps k ++ l))
shl_worth k l = sym (ap num (map_take value 32 (gaps k ++ l)) ∙ num_take 32 (map value (gaps k ++ l)) ∙ ap (λ (n : ℕ). n % 2 ^ 32) (up_worth k l))

pub shl_one : (k : ℕ) → k < 32 → 1 * 2 ^ k % 2 ^ 32 ≡ 2 ^ k
shl_one k h = shl_exact {a = 1} 1 k 32 (omega arith) (omega arith) ∙ one-mul (2 ^ k)

-- ---- steps of a chain: a word over the same word shifted, where a mask of 32 bits keeps them

abbrev pub squeeze : ℕ → ℕ → ℕ → ℕ
squeeze k m n = bit_and (bit_or n (n / 2 ^ k)) m

abbrev pub stretch : ℕ → ℕ → ℕ → ℕ
stretch k m n = bit_and (bit_or n (n * 2 ^ k % 2 ^ 32)) m

abbrev pub squeezed : ℕ → ℕ → List Slot → List Slot
squeezed k m l = masked (bits 32 m) (either l (drop k l))

abbrev pub stretched : ℕ → ℕ → List Slot → List Slot
stretched k m l = masked (bits 32 m) (either l (take 32 (gaps k ++ l)))

and_mask : (m : ℕ) (l : List Slot) → m < 2 ^ 32 → bit_and (worth l) m ≡ worth (masked (bits 32 m) l)
and_mask m l h = ap (bit_and (worth l)) (sym (num_bits 32 m ∙ mod-eq_of_lt h)) ∙ and_worth l (bits 32 m)

-- a number and the list of its places
pub record Held (n : ℕ) (l : List Slot) : Type 0 where
  pub is : n ≡ worth l

pub mask_held : (m : ℕ) {n : ℕ} {l : List Slot} → m < 2 ^ 32 → Held n l → Held (bit_and n m) (masked (bits 32 m) l)
mask_held m {n} {l} h e = record { is = rw e.is (and_mask m l h) }

pub squeeze_held : (k m : ℕ) {n : ℕ} {l : List Slot} → m < 2 ^ 32 → Held n l → Held (squeeze k m n) (squeezed k m l)
squeeze_held k m {n} {l} h e =
    record { is = rw (e.is, shr_worth k l, or_worth l (drop k l)) (and_mask m (either l (drop k l)) h) }

pub stretch_held : (k m : ℕ) {n : ℕ} {l : List Slot} → m < 2 ^ 32 → Held n l → Held (stretch k m n) (stretched k m l)
stretch_held k m {n} {l} h e =
    record { is = rw (e.is, shl_worth k l, or_worth l (take 32 (gaps k ++ l))) (and_mask m (either l (take 32 (gaps k ++ l))) h) }

-- ---- what holds of n unknown bits holds of the n bits of a number

abbrev pub OfBits : ℕ → (List Bool → Type 0) → Type 0
OfBits zero P = P []
OfBits (suc n) P = (b : Bool) → OfBits n (λ l. P (b ∷ l))

pub of_bits_lem : (n : ℕ) (P : List Bool → Type 0) → OfBits n P → (x : ℕ) → P (bits n x)
unfolding bits
of_bits_lem zero P f x = f
of_bits_lem (suc n) P f x = of_bits_lem n (λ l. P (odd x ∷ l)) (f (odd x)) (x / 2)

-- ---- a list of bits and what stands above it

value_full : (l : List Bool) (m : List Slot) → map value (map full l ++ m) ≡ l ++ map value m
value_full [] m = refl
value_full (b ∷ l) m = ap (λ (z : List Bool). b ∷ z) (value_full l m)

pub full_worth : (l : List Bool) (m : List Slot) → worth (map full l ++ m) ≡ num l + 2 ^ length l * worth m
full_worth l m = ap num (value_full l m) ∙ num_append l (map value m)

pub bits_held : (n x : ℕ) → x < 2 ^ n → Held x (map full (bits n x))
bits_held n x h = record { is = sym (ap num (map_id (bits n x)) ∙ num_bits n x ∙ mod-eq_of_lt h) }
  where
    map_id : (l : List Bool) → map value (map full l) ≡ l
    map_id [] = refl
    map_id (b ∷ l) = ap (λ (z : List Bool). b ∷ z) (map_id l)
