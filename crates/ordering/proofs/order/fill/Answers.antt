-- `ordering::order::fill` meets its contract: a part that is filled is a run of stores.
use Rattle.std.proofs.Common.{◌≡◌, ℕ, ◌+◌, length, replicate, ap, ◌∙◌, arith}
use Rattle.std.specs.List.{between}
use Rattle.std.proofs.lemmas.List.Edits.{length-between}
use Rattle.ordering.proofs.Runs.{fill_sets}
use Rattle.ordering.proofs.order.fill.Goals as goal

pub returns : goal.returns
returns c =
    let a = c.args in
    let l : length (between a.at (a.at + a.count) a.out.now) ≡ a.count = omega (arith, length-between a.out.now a.at (a.at + a.count) c.requires) in
    fill_sets _ _ _ _ _ (c.fill.ensures.after (λ y h. h) ∙ ap (λ (n : ℕ). replicate n a.v) l) c.requires
