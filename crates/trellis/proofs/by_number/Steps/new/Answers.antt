-- `trellis::by_number::Steps::new` meets its contract: the steps of all states, computed.
use Rattle.trellis.specs.Steps.{state_number, state_at, low_number, step_number, step_at, step_list}
use Rattle.g9932.specs.Bits.{weight, odd}
use mathlib.Core.Path.{refl}
use Rattle.trellis.proofs.by_number.Steps.new.Goals as goal

pub invariant_of-result : goal.invariant_of-result
unfolding weight odd state_number state_at low_number step_number step_at step_list
invariant_of-result c = record { of_states = refl }
