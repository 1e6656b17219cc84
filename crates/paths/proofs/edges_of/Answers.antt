-- `paths::edges_of` meets its contract: eight edges, each the better of two words.
use Rattle.paths.proofs.Metrics.{below8}
use Rattle.g9932.specs.Bits.{weight}
use mathlib.Core.List.{[], ◌∷◌}
use Rattle.paths.proofs.edges_of.Goals as goal

pub returns : goal.returns
unfolding weight
returns c =
    let e1 = c.edge.ensures in
    let e2 = c.edge-2.ensures in
    let e3 = c.edge-3.ensures in
    let e4 = c.edge-4.ensures in
    let e5 = c.edge-5.ensures in
    let e6 = c.edge-6.ensures in
    let e7 = c.edge-7.ensures in
    let e8 = c.edge-8.ensures in (
      λ i. e1.0 i ∷ e2.0 i ∷ e3.0 i ∷ e4.0 i ∷ e5.0 i ∷ e6.0 i ∷ e7.0 i ∷ e8.0 i ∷ [],
      below8 e1.1 e2.1 e3.1 e4.1 e5.1 e6.1 e7.1 e8.1,
    )
