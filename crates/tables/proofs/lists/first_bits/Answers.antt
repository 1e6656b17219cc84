use Rattle.std.proofs.Common.{◌≡◌, ltb, refl, rules, tests, ◌∙◌}
use Rattle.std.proofs.lemmas.Iterator.{YieldsList-from_slice}
use Rattle.std.proofs.lemmas.Iterator.Search.{position_from_yields_List}
use Rattle.std.specs.List.{position}
use Rattle.tables.proofs.Searches.{position_first_lem}
use Rattle.tables.proofs.lists.first_bits.Goals as goal

pub returns : goal.returns
returns c =
    let e : c.position.result ≡ position (ltb 15) c.args.bits.now = position_from_yields_List (ltb 15) _ _ _ c.position.ensures.ran (YieldsList-from_slice c.args.bits.now cc) (λ x b q k. search (rules, tests)) in
    e ∙ position_first_lem (ltb 15) c.args.bits.now 0 _ _ refl (λ k h. refl)
