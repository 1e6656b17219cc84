use Rattle.std.proofs.Common.{◌≡◌, ℕ, Bool, false, refl, rules, tests, ◌∙◌, arith}
use Rattle.std.proofs.lemmas.Iterator.{YieldsList-from_slice, YieldsList-from_zip}
use Rattle.std.proofs.lemmas.Iterator.Search.{position_from_yields_List}
use Rattle.std.specs.List.{position, zip}
use Rattle.std.proofs.lemmas.Slice.Zip.{length-zip, get_or-zip}
use Rattle.g9932.specs.Refusals.{stray_by}
use Rattle.tables.proofs.Searches.{position_first_lem}
use Rattle.tables.proofs.lists.first_stray.Goals as goal

pub returns : goal.returns
returns c =
    let s = c.args.seen.now in
    let b = c.args.t.bits.now in
    let g = c.args.t.gains.now in
    let e : c.position.result ≡ position (λ (x : Bool × (ℕ × ℕ)). stray_by x.0 x.1.0 x.1.1) (zip s (zip b g)) = position_from_yields_List {s = c.zip.result} (λ (x : Bool × (ℕ × ℕ)). stray_by x.0 x.1.0 x.1.1) c.position.new.self _ c.position.result c.position.ensures.ran (YieldsList-from_zip {s = c.zip.result} (YieldsList-from_slice s cc) (YieldsList-from_zip {s = c.zip.result.b} (YieldsList-from_slice b cc) (YieldsList-from_slice g cc))) (λ x b q k. search (rules, tests)) in
    let l = length-zip b g in
    e ∙ position_first_lem (λ (x : Bool × (ℕ × ℕ)). stray_by x.0 x.1.0 x.1.1) (zip s (zip b g)) (false, (0, 0)) _ _ (omega (arith, c.told-seen, length-zip s (zip b g)))
    (λ k h. rw (get_or-zip s (zip b g) k (false, (0, 0)) (omega (arith, c.told-seen)) (omega arith), get_or-zip b g k (0, 0) h (omega arith), c.requires.marks k (omega arith)) refl)
