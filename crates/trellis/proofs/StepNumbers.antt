-- The tables of the free pairs: what stands at an entry, and what a step's number holds.
use mathlib.Core.Bool.{Bool}
use mathlib.Core.List.{List}
use mathlib.Core.Path.{◌≡◌, sym, ap, ◌∙◌}
use Prim.Native.Nat.{ℕ, ◌+◌, ◌*◌, ◌/◌, ◌%◌, ◌<◌}
use lib.ListN.{get_or}
use lib.Pow.{field}
use native.Mathlib.Omega.{arith}
use Rattle.g9932.proofs.Lists.{table_at}
use Rattle.g9932.proofs.Words.{weight_le, odd_weight}
use Rattle.g9932.specs.Bits.{weight, odd}
use Rattle.g9932.specs.Trellis.{low_bits, next_state}
use Rattle.g9932.specs.declared.LowBits.{LowBits}
use Rattle.g9932.specs.declared.TrellisState.{TrellisState}
use Rattle.trellis.specs.Steps.{state_number, state_at, low_number, step_number, step_at, step_list}
use Rattle.trellis.specs.Pairs.{coder_at}
use Rattle.trellis.specs.declared.Coder.{Coder}

-- numbers with the same three lowest bits
module _ (a b : ℕ) (h : a % 8 ≡ b % 8) where
  pub same_odd : odd a ≡ odd b
  unfolding odd
  same_odd = let e : a % 2 ≡ b % 2 = omega arith in rw e

  pub same_half : odd (a / 2) ≡ odd (b / 2)
  unfolding odd
  same_half =
      let p = field a 1 1 in
      let q = field b 1 1 in
      let e : a / 2 % 2 ≡ b / 2 % 2 = sym p ∙ ap (λ (m : ℕ). m / 2) (let f : a % 4 ≡ b % 4 = omega arith in f) ∙ q in
      rw e

  pub same_quarter : odd (a / 4) ≡ odd (b / 4)
  unfolding odd
  same_quarter = let e : a / 4 % 2 ≡ b / 4 % 2 = sym (field a 1 2) ∙ ap (λ (m : ℕ). m / 4) h ∙ field b 1 2 in rw e

step_at_lem : (state word : ℕ) → state < 16 → get_or step_list (8 * state + word % 8) 0 ≡ step_number (state_at state) (odd word) (odd (word / 2)) (odd (word / 4))
unfolding step_list step_at
step_at_lem state word h =
    let k : ℕ = 8 * state + word % 8 in
    let s : k / 8 ≡ state = omega arith in
    let e : k % 8 ≡ word % 8 = omega arith in
    table_at step_at 128 k (omega arith) ∙ rw (s, same_odd k word e, same_half k word e, same_quarter k word e)

-- ---- a state's number

pub state_back : (s : TrellisState) → state_at (state_number s) ≡ s
unfolding state_at state_number
state_back s =
    let n : ℕ = weight s.s0 + 2 * weight s.s1 + 4 * weight s.s2 + 8 * weight s.s3 in
    let w0 = weight_le s.s0 in
    let w1 = weight_le s.s1 in
    let w2 = weight_le s.s2 in
    let e0 : n ≡ weight s.s0 + 2 * (weight s.s1 + 2 * (weight s.s2 + 2 * weight s.s3)) = omega arith in
    let e1 : n / 2 ≡ weight s.s1 + 2 * (weight s.s2 + 2 * weight s.s3) = omega arith in
    let e2 : n / 4 ≡ weight s.s2 + 2 * weight s.s3 = omega arith in
    let e3 : n / 8 ≡ weight s.s3 + 2 * 0 = omega arith in
    let p0 : odd n ≡ s.s0 = ap odd e0 ∙ odd_weight s.s0 _ in
    let p1 : odd (n / 2) ≡ s.s1 = ap odd e1 ∙ odd_weight s.s1 _ in
    let p2 : odd (n / 4) ≡ s.s2 = ap odd e2 ∙ odd_weight s.s2 _ in
    let p3 : odd (n / 8) ≡ s.s3 = ap odd e3 ∙ odd_weight s.s3 0 in
    λ i. record { s3 = p3 i; s2 = p2 i; s1 = p1 i; s0 = p0 i }

state_lt : (s : TrellisState) → state_number s < 16
unfolding state_number
state_lt s = omega (arith, weight_le s.s0, weight_le s.s1, weight_le s.s2, weight_le s.s3)

-- the coder with its state as a number is the coder
pub coder_back : (c : Coder) (n : ℕ) → n ≡ state_number c.state → coder_at n c.at ≡ c
coder_back c n h =
    let e : state_at n ≡ c.state = ap state_at h ∙ state_back c.state in
    ap (λ (s : TrellisState). record { state = s; at = c.at }) e

-- ---- a step's number

module _ (s : TrellisState) (u1 u2 u3 : Bool) where
  abbrev low : LowBits
  low = low_bits s.s0 u1 u2 u3

  module _ (t : ℕ) (h : t ≡ step_number s u1 u2 u3) where
    pub step_v : t % 4 ≡ weight low.v0 + 2 * weight low.v1
    unfolding step_number low_number
    step_v = omega (arith, h, weight_le low.v0, weight_le low.v1)

    pub step_w : t / 4 % 4 ≡ weight low.w0 + 2 * weight low.w1
    unfolding step_number low_number
    step_w = omega (arith, h, weight_le low.v0, weight_le low.v1, weight_le low.w0, weight_le low.w1)

    pub step_next : t / 16 ≡ state_number (next_state s u1 u2)
    unfolding step_number low_number
    step_next = omega (arith, h, weight_le low.v0, weight_le low.v1, weight_le low.w0, weight_le low.w1)

    pub step_lt : t < 256
    unfolding step_number low_number
    step_lt = omega (arith, h, state_lt (next_state s u1 u2), weight_le low.v0, weight_le low.v1, weight_le low.w0, weight_le low.w1)

-- ---- as the code has them

pub step_found : (steps : List ℕ) (state word : ℕ) → steps ≡ step_list → state < 16
    → (get_or steps (8 * state + word % 8) 0 ≡ step_number (state_at state) (odd word) (odd (word / 2)) (odd (word / 4))) × (get_or steps (8 * state + word % 8) 0 < 256)
step_found steps state word hs h =
    let e = rw (← hs) at (step_at_lem state word h) in
    (e, step_lt (state_at state) (odd word) (odd (word / 2)) (odd (word / 4)) _ e)
