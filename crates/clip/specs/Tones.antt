-- The look along t for the first monitored tone, with its place in t' and the silent tones before it there.
use Rattle.std.specs.Prelude.{ℕ, ◌+◌, ◌≤◌, Bool, true, false, List, [], ◌∷◌, ◌≡◌, ℤ, length, Option, None, Some}
use Rattle.g9932.specs.Bits.{weight}
use Rattle.g9932.specs.Refusals.{table_verdict}
use Rattle.g9932.specs.Sizes.{tables, most_tones}
use Rattle.g9932.specs.Symbol.{class_at, is_monitored}
use Rattle.g9932.specs.declared.Class.{Class}
use Rattle.g9932.specs.declared.Mode.TheVariants.{Coded}
use Rattle.plan.specs.Plan.{is_placed, is_drawing}
use Rattle.tables.specs.Checks.{Below}
use Rattle.clip.specs.declared.Along.{Along}

-- of a sub-carrier, whether a tone there is monitored
abbrev pub is_monitored_in : List ℕ → List ℕ → ℕ → Bool
is_monitored_in b g k = is_monitored (class_at b g k)

-- a place in t', and the silent tones before it
abbrev pub along : ℕ → ℕ → Along
along p s = record { place = record { 0 = p }; silent = s }

-- past a tone: a 1-bit tone takes no place here, for t' has it behind the others; a 0-bit tone draws
abbrev pub past_tone : Class → Along → Along
past_tone c at = along (at.place.0 + weight (is_placed 2 c)) (at.silent + weight (is_drawing c))

-- the look along the classes of t
abbrev pub look_by : Bool → Along → Option Along → Option Along
look_by true at rest = Some at
look_by false at rest = rest

unfoldable pub look : List Class → Along → Option Along
look [] at = None
look (c ∷ cs) at = look_by (is_monitored c) at (look cs (past_tone c at))

-- t has at most 4,096 indices, all below G, which both tables have
pub record LookNeeds (b g t : List ℕ) : Type 0 where
  pub below : Below (length b) t
  pub gains : length g ≡ length b
  pub most : length t ≤ most_tones

-- accepted tables, and lists of points of the right length
pub record TellNeeds (b g t : List ℕ) (xs ys : List ℤ) : Type 0 where
  pub tables : (table_verdict (tables Coded b g t)).number ≡ 0
  pub xs_length : length xs ≡ length t
  pub ys_length : length ys ≡ length t
