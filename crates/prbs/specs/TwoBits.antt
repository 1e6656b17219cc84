-- The two bits of a 0-bit tone as a label, and the register after them.
use Rattle.std.specs.Prelude.{ℕ, ◌≡◌}
use Rattle.g9932.specs.Bits.{num}
use Rattle.g9932.specs.Filler.{drawn, after_draws}
use Rattle.prbs.specs.declared.FillerLabel.{FillerLabel}

pub record TwoDrawn (r : ℕ) (f : FillerLabel) : Type 0 where
  pub label : f.label ≡ num (drawn 2 r)
  pub register : f.register ≡ after_draws 2 r
