use Rattle.std.proofs.Common.{◌≡◌, ℕ, length, refl, rules, tests, ◌∙◌, arith}
use Rattle.std.proofs.lemmas.Iterator.{YieldsList-from_slice, YieldsList-from_zip}
use Rattle.std.proofs.lemmas.Iterator.Search.{position_from_yields_List}
use Rattle.std.specs.List.{position, zip}
use Rattle.std.proofs.lemmas.Slice.Zip.{length-zip, get_or-zip}
use Rattle.g9932.specs.Refusals.{gain_by, gain_test}
use Rattle.tables.proofs.Searches.{position_first_lem}
use Rattle.tables.proofs.lists.first_wrong_gain.Goals as goal

pub returns : goal.returns
returns c =
    let b = c.args.bits.now in
    let g = c.args.gains.now in
    let e : c.position.result ≡ position (λ (x : ℕ × ℕ). gain_by x.0 x.1) (zip b g) = position_from_yields_List {s = c.zip.result} (λ (x : ℕ × ℕ). gain_by x.0 x.1) c.position.new.self _ c.position.result c.position.ensures.ran (YieldsList-from_zip {s = c.zip.result} (YieldsList-from_slice b cc) (YieldsList-from_slice g cc)) (λ x b q k. search (rules, tests)) in
    e ∙ position_first_lem (λ (x : ℕ × ℕ). gain_by x.0 x.1) (zip b g) (0, 0) (gain_test b g) (length b) (omega (arith, length-zip b g)) (λ k h. rw (get_or-zip b g k (0, 0) h (omega arith)) refl)
