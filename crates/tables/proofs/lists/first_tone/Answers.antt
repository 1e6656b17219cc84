use Rattle.std.proofs.Common.{◌≡◌, leb, refl, sym, rules, tests, ◌∙◌}
use Rattle.std.proofs.lemmas.Iterator.{YieldsList-from_slice}
use Rattle.std.proofs.lemmas.Iterator.Search.{position_from_yields_List}
use Rattle.std.specs.List.{position}
use Rattle.tables.proofs.Scans.{any_nothing}
use Rattle.tables.proofs.Searches.{position_first_lem}
use Rattle.tables.proofs.lists.first_tone.Goals as goal

pub returns-then-not-any_tone_fault : goal.returns-then-not-any_tone_fault
returns-then-not-any_tone_fault c = sym (any_nothing _ _ (sym c.any_tone_fault.ensures ∙ c.if-not-any_tone_fault.true))

pub returns : goal.returns
returns c =
    let e : c.position.result ≡ position (leb c.args.g) c.args.tones.now = position_from_yields_List (leb c.args.g) _ _ _ c.position.ensures.ran (YieldsList-from_slice c.args.tones.now cc) (λ x b q k. search (rules, tests)) in
    e ∙ position_first_lem (leb c.args.g) c.args.tones.now 0 _ _ refl (λ k h. refl)
