-- `nearest::inputs::check_inputs` meets its contract: the working buffer's length, and then the inputs of exact reading.
use Rattle.nearest.proofs.NearestInputs.{work_room_lem, work_fits}
use mathlib.Core.Path.{sym, ◌∙◌}
use Rattle.nearest.proofs.inputs.check_inputs.Goals as goal

pub returns-then-work_len-bytes : goal.returns-then-work_len-bytes
returns-then-work_len-bytes c = work_room_lem _ _ _ _ _ _ _ _ _ (λ e. c.if-work_len-bytes.true (e ∙ sym c.work_bytes-bytes.ensures))

pub returns : goal.returns
returns c = c.check_inputs.ensures ∙ work_fits _ _ _ _ _ _ _ _ _ (c.if-work_len-bytes.false ∙ c.work_bytes-bytes.ensures)
