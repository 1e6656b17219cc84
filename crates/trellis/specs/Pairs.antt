-- What a step by numbers hands back, and a free pair coded.
use Rattle.std.specs.Prelude.{false, List, ◌≡◌, ℕ, ◌+◌, ◌-◌, ◌/◌, ◌%◌, ◌<◌}
use Rattle.g9932.specs.Order.{pair}
use Rattle.trellis.specs.Coding.{CodesPair}
use Rattle.trellis.specs.Steps.{state_at}
use Rattle.trellis.specs.declared.Coder.{Coder}
use Rattle.trellis.specs.declared.PairCode.{PairCode}
use Rattle.trellis.specs.declared.by_number.StateNumber.{StateNumber}

-- the coder whose state has a number
abbrev pub coder_at : ℕ → ℕ → Coder
coder_at state at = record { state = state_at state; at = at }

-- what a step hands back, by its number
pub record StepsBy (t : ℕ) (r : PairCode StateNumber) : Type 0 where
  pub next_is : r.next.number ≡ t / 16
  pub v_is : r.v ≡ t % 4
  pub w_is : r.w ≡ t / 4 % 4
  pub small : t < 256

-- a free pair coded
pub record CodesFreePair (state at x y : ℕ) (frame : List ℕ) (r : PairCode StateNumber) : Type 0 where
  pub codes : CodesPair (coder_at state at) false (pair x y) frame (record { v = r.v; w = r.w; next = coder_at r.next.number (at + (x + y - 1)) })
