-- The plan of the tables after the other inputs are checked: refused by the tables, refused by the inputs, or the plan of accepted tables.
use Prim.Native.Nat.{ℕ, ◌≤◌}
use lib.ListN.{length, replicate, length-replicate}
use mathlib.Core.Path.{◌≡◌, ap, ◌∙◌}
use Rattle.std.specs.Prelude.{Ok, Err}
use Rattle.g9932.proofs.Verdicts.{number_none, and_refused, and_accepted, and_none}
use Rattle.g9932.specs.Answers.{verdict_of}
use Rattle.g9932.specs.Refusals.{Verdict, accepted, table_verdict}
use Rattle.g9932.specs.Sizes.{Tables, most_tones}
use Rattle.g9932.specs.Symbol.{size_of}
use Rattle.g9932.specs.declared.Refusal.{Refusal}
use Rattle.plan.specs.Plan.{Plans}
use Rattle.plan.specs.declared.Plan.{Plan}
use Rattle.symbol.specs.Inputs.{PlansFor}
use Rattle.symbol.proofs.TablePlan.{tones_most_lem}

module _ {T : Tables} (v : ℕ → Verdict) where
  pub tables_refused : (x : Refusal) → verdict_of (Err x) ≡ table_verdict T → PlansFor T v (Err x)
  tables_refused x e = record { answer = and_refused x (v (size_of T)) e; made = tt }

  module _ {p : Plan} (t : Plans T (Ok p)) where
    pub inputs_refused : (x : Refusal) → verdict_of (Err x) ≡ v p.size → PlansFor T v (Err x)
    inputs_refused x e = record { answer = and_accepted p.size t.answer (e ∙ ap v t.made.size_is); made = tt }

    pub inputs_passed : accepted p.size ≡ v p.size → PlansFor T v (Ok p)
    inputs_passed e = record { answer = and_accepted p.size t.answer (e ∙ ap v t.made.size_is); made = t.made }

-- nothing is refused
module _ {T : Tables} {v : ℕ → Verdict} {p : Plan} (h : PlansFor T v (Ok p)) where
  pub accepts : (table_verdict T).number ≡ 0
  accepts = (and_none (table_verdict T) (v (size_of T)) (number_none h.answer)).0

  pub inputs_pass : (v (size_of T)).number ≡ 0
  inputs_pass = (and_none (table_verdict T) (v (size_of T)) (number_none h.answer)).1

  -- there is room for all tones, and so for their labels
  pub tones_fit : length T.tones ≤ most_tones
  tones_fit = tones_most_lem T accepts

  pub labels_fit : length T.tones ≤ length (replicate {A = ℕ} most_tones 0)
  labels_fit = rw length-replicate tones_fit
