-- Refusals 7 and 8 and L, and what the mode makes of the tones.
use Rattle.std.specs.Prelude.{ℕ, ◌-◌, ◌/◌, ◌%◌, List, ◌≡◌, Result, Ok, Err}
use Rattle.g9932.specs.Order.{loaded, ones}
use Rattle.g9932.specs.Refusals.{number_of, place_of, Verdict, refused, accepted}
use Rattle.g9932.specs.declared.Mode.{Mode}
use Rattle.g9932.specs.declared.Mode.TheVariants.{Uncoded, Coded}
use Rattle.g9932.specs.declared.Refusal.{Refusal}
use Rattle.tables.specs.declared.sizes.FrameSize.{FrameSize}

-- how many tones share an entry of b': coded, those of 1 bit
abbrev pub sharing : Mode → List ℕ → List ℕ → ℕ
sharing Uncoded b t = 0
sharing Coded b t = ones b t

abbrev pub sized_verdict : Result FrameSize Refusal → Verdict
sized_verdict (Ok s) = accepted s.size
sized_verdict (Err x) = refused (number_of x) (place_of x)

-- the entries of b' that are not 0, and the tones that share, two by two
abbrev pub SharersAre : Mode → List ℕ → List ℕ → Result FrameSize Refusal → Type 0
SharersAre m b t (Ok s) = (s.entries ≡ loaded b t - sharing m b t / 2) × (s.sharers ≡ sharing m b t) × (s.sharers % 2 ≡ 0)
SharersAre m b t (Err x) = Unit {0}

-- by the verdict of refusals 7 and 8 alone, or of 1 to 8
pub record SizedBy (v : Verdict) (m : Mode) (b t : List ℕ) (r : Result FrameSize Refusal) : Type 0 where
  pub answer : sized_verdict r ≡ v
  pub shares : SharersAre m b t r
