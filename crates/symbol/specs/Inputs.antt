-- The refusals of the inputs besides the tables, after those of the tables.
use Rattle.std.specs.Prelude.{ℕ, Result, ◌≡◌}
use Rattle.g9932.specs.Refusals.{Verdict, and_then, table_verdict}
use Rattle.g9932.specs.Sizes.{Tables}
use Rattle.g9932.specs.Symbol.{size_of}
use Rattle.g9932.specs.declared.Refusal.{Refusal}
use Rattle.plan.specs.Plan.{planned_verdict, Made}
use Rattle.plan.specs.declared.Plan.{Plan}

-- what refuses the tables, or else the inputs, whose verdict is by L; and where nothing does, the plan
pub record PlansFor (T : Tables) (v : ℕ → Verdict) (r : Result Plan Refusal) : Type 0 where
  pub answer : planned_verdict r ≡ and_then (table_verdict T) (v (size_of T))
  pub made : Made T r
