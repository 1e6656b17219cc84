-- One free pair: the word ahead, masked, and the step that was looked up make the pair's labels and its next state.
use mathlib.Core.Path.{◌≡◌, refl, ap, ◌∙◌}
use mathlib.Core.Bool.{false}
use mathlib.Core.List.{List}
use Prim.Native.Nat.{ℕ, ◌+◌, ◌-◌, ◌*◌, ◌/◌, ◌%◌, ◌^◌, ◌≤◌}
use native.Mathlib.Omega.{arith}
use lib.ListN.{length, drop}
use lib.Pow.{field, mod-mod-pow, shr-shr}
use Rattle.frame.specs.BitsAhead.{Ahead}
use Rattle.g9932.specs.Bits.{odd}
use Rattle.g9932.specs.Order.{pair}
use Rattle.g9932.specs.Sizes.{unpack}
use Rattle.g9932.specs.Trellis.{taken, low_bits, next_state}
use Rattle.g9932.specs.declared.LowBits.{LowBits}
use Rattle.g9932.specs.declared.TrellisState.{TrellisState}
use Rattle.trellis.specs.Coding.{label_number, CodesPair}
use Rattle.trellis.specs.Steps.{state_at, step_number}
use Rattle.trellis.specs.Pairs.{coder_at}
use Rattle.trellis.proofs.Numbers.{inputs_of}
use Rattle.trellis.proofs.OnePair.{got_pair}
use Rattle.trellis.proofs.StepNumbers.{same_odd, same_half, same_quarter, state_back, step_v, step_w, step_next}

-- the bits that the pair takes, and those of the word
module _ (word x y : ℕ) (hx : 2 ≤ x) (hy : 2 ≤ y) where
  abbrev got : ℕ
  got = word % 2 ^ (x + y - 1)

  count : x + y - 1 ≡ y - 2 + (x - 2) + 3
  count = omega arith

  low_bits_lem : got % 8 ≡ word % 8
  low_bits_lem = ap (λ (n : ℕ). word % 2 ^ n % 8) count ∙ mod-mod-pow word (y - 2 + (x - 2)) 3

  high_bits : got / 8 ≡ word / 8 % 2 ^ (y - 2 + (x - 2))
  high_bits = ap (λ (n : ℕ). word % 2 ^ n / 8) count ∙ field word (y - 2 + (x - 2)) 3

  v_bits : got / 8 % 2 ^ (x - 2) ≡ word / 8 % 2 ^ (x - 2)
  v_bits = ap (λ (n : ℕ). n % 2 ^ (x - 2)) high_bits ∙ mod-mod-pow (word / 8) (y - 2) (x - 2)

  w_bits : got / 8 / 2 ^ (x - 2) ≡ word / 2 ^ (x + 1) % 2 ^ (y - 2)
  w_bits =
      let e : 3 + (x - 2) ≡ x + 1 = omega arith in
      ap (λ (n : ℕ). n / 2 ^ (x - 2)) high_bits
      ∙ field (word / 8) (y - 2) (x - 2)
      ∙ ap (λ (n : ℕ). n % 2 ^ (y - 2)) (shr-shr word 3 (x - 2) ∙ ap (λ (n : ℕ). word / 2 ^ n) e)

-- as the code has it
module _ (l : List ℕ) (state at x y word t : ℕ) (hx : 2 ≤ x) (kx : x ≤ 15) (hy : 2 ≤ y) (ky : y ≤ 15)
    (room : at + taken false (pair x y) ≤ 8 * length l) (ahead : Ahead word (drop at (unpack l)))
    (step : t ≡ step_number (state_at state) (odd word) (odd (word / 2)) (odd (word / 4))) where
  pub free_coded : (v w : ℕ) → v ≡ t % 4 + 4 * (word / 8 % 2 ^ (x - 2)) → w ≡ t / 4 % 4 + 4 * (word / 2 ^ (x + 1) % 2 ^ (y - 2))
      → CodesPair (coder_at state at) false (pair x y) l (record { v = v; w = w; next = coder_at (t / 16) (at + (x + y - 1)) })
  unfolding inputs_of
  free_coded v w hv hw =
      let s : TrellisState = state_at state in
      let g : ℕ = got word x y hx hy in
      let e : g % 8 ≡ word % 8 = low_bits_lem word x y hx hy in
      let low : LowBits = low_bits s.s0 (odd g) (odd (g / 2)) (odd (g / 4)) in
      let h : t ≡ step_number s (odd g) (odd (g / 2)) (odd (g / 4)) = rw (same_odd g word e, same_half g word e, same_quarter g word e) step in
      let a : v ≡ label_number low.v0 low.v1 (g / 8 % 2 ^ (x - 2)) =
      hv ∙ rw (v_bits word x y hx hy, step_v s (odd g) (odd (g / 2)) (odd (g / 4)) t h) in
      let b : w ≡ label_number low.w0 low.w1 (g / 8 / 2 ^ (x - 2)) =
      hw ∙ rw (w_bits word x y hx hy, step_w s (odd g) (odd (g / 2)) (odd (g / 4)) t h) in
      let p = got_pair false s x y l at (x + y - 1) g (inputs_of false s g) hx hy room refl (ahead (x + y - 1) (omega arith)) refl low v w refl a b in
      record {
        state = ap state_at (step_next s (odd g) (odd (g / 2)) (odd (g / 4)) t h) ∙ state_back (next_state s (odd g) (odd (g / 2))) ∙ p.next;
        at = refl;
        sends = p.sends;
        v_small = p.v_small;
        w_small = p.w_small;
      }
