-- `clip::check` meets its contract: the refusals in their order, or else what the first monitored tone tells.
use Rattle.std.proofs.Common.{sym, ap, ◌∙◌}
use Rattle.g9932.specs.Answers.{test_of}
use Rattle.clip.proofs.Answers.{check_refused, check_told, passed}
use Rattle.clip.proofs.check.Goals as goal

pub returns-in-Err : goal.returns-in-Err
returns-in-Err c = check_refused c.in-Err.refusal _ _ (ap test_of (sym c.in-Err.is) ∙ c.check_inputs.ensures)

pub tell-clip-requires : goal.tell-clip-requires
tell-clip-requires c = passed _ _ _ _ _ _ (ap test_of (sym c.in-Ok.is) ∙ c.check_inputs.ensures)

pub returns-in-Ok : goal.returns-in-Ok
returns-in-Ok c = rw c.tell-clip.ensures (check_told _ _ (ap test_of (sym c.in-Ok.is) ∙ c.check_inputs.ensures))
