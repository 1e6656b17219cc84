-- The state as a number, and the table of the encoder's steps.
use Rattle.std.specs.Prelude.{Bool, List, ℕ, ◌+◌, ◌*◌, ◌/◌}
use Rattle.g9932.specs.Bits.{weight, odd, values_from}
use Rattle.g9932.specs.Trellis.{low_bits, next_state}
use Rattle.g9932.specs.declared.LowBits.{LowBits}
use Rattle.g9932.specs.declared.TrellisState.{TrellisState}

-- a state (S3, S2, S1, S0) as a number, and the state of a number
unfoldable pub state_number : TrellisState → ℕ
state_number s = weight s.s0 + 2 * weight s.s1 + 4 * weight s.s2 + 8 * weight s.s3

unfoldable pub state_at : ℕ → TrellisState
state_at k = record { s3 = odd (k / 8); s2 = odd (k / 4); s1 = odd (k / 2); s0 = odd k }

-- a step as a number: v0 to w1, then the next state
unfoldable pub low_number : LowBits → ℕ
low_number low = weight low.v0 + 2 * weight low.v1 + 4 * weight low.w0 + 8 * weight low.w1

unfoldable pub step_number : TrellisState → Bool → Bool → Bool → ℕ
step_number s u1 u2 u3 = low_number (low_bits s.s0 u1 u2 u3) + 16 * state_number (next_state s u1 u2)

-- the table of steps: at 8 times a state, with u1 + 2 u2 + 4 u3, stands its step
unfoldable pub step_at : ℕ → ℕ
step_at k = step_number (state_at (k / 8)) (odd k) (odd (k / 2)) (odd (k / 4))

unfoldable pub step_list : List ℕ
step_list = values_from step_at 0 128
