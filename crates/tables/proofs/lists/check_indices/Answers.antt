-- `tables::lists::check_indices` meets its contract: each return follows the chain of refusals 4 to 6 to the one that it makes.
use mathlib.Core.Path.{refl, sym, ◌∙◌}
use Rattle.tables.proofs.Faults.{indices_passed}
use Rattle.g9932.proofs.Verdicts.{found_here, found_past}
use Rattle.tables.proofs.lists.check_indices.Goals as goal

pub returns-then-not-any_index_fault : goal.returns-then-not-any_index_fault
returns-then-not-any_index_fault c =
    indices_passed c.args.t.bits.now c.args.t.gains.now c.args.t.tones.now (sym c.any_index_fault.ensures ∙ c.if-not-any_index_fault.true)

pub returns-in-Some : goal.returns-in-Some
returns-in-Some c = found_here 4 _ (sym c.first_bits.ensures ∙ c.in-Some.is)

pub returns-in-Some-first_stray : goal.returns-in-Some-first_stray
returns-in-Some-first_stray c =
    found_past 4 (sym c.first_bits.ensures ∙ c.in_default.is) (found_here 5 _ (sym c.first_stray.ensures ∙ c.in-Some-first_stray.is))

pub returns-in-Some-first_wrong_gain : goal.returns-in-Some-first_wrong_gain
returns-in-Some-first_wrong_gain c =
    found_past 4 (sym c.first_bits.ensures ∙ c.in_default.is)
    (found_past 5 (sym c.first_stray.ensures ∙ c.in_default-first_stray.is) (found_here 6 _ (sym c.first_wrong_gain.ensures ∙ c.in-Some-first_wrong_gain.is)))

pub returns : goal.returns
returns c =
    found_past 4 (sym c.first_bits.ensures ∙ c.in_default.is)
    (found_past 5 (sym c.first_stray.ensures ∙ c.in_default-first_stray.is)
    (found_past 6 (sym c.first_wrong_gain.ensures ∙ c.in_default-first_wrong_gain.is) refl))
