-- `constellation::stored::entry_of` meets its contract: no number is too large, and the points of each bit count begin where they should.
use native.Mathlib.Omega.{arith}
use Prim.Native.Nat.{◌+◌, ◌-◌, ◌*◌, ◌/◌, ◌%◌}
use mathlib.Core.Bool.{cond}
use mathlib.Core.Path.{◌≡◌, ap, ◌∙◌}
use Rattle.constellation.specs.Stored.{EntryOf}
use Rattle.constellation.proofs.MapByLayout.{liftable}
use Rattle.constellation.proofs.StoredPoints.{LabelsFit, labels_fit_lem, labels_of, first_of, entry_of}
use Rattle.constellation.proofs.stored.entry_of.Goals as goal
use Rattle.constellation.proofs.stored.entry_of.Goals.{Start, After-pick-first}

fit : (c : Start) → LabelsFit c.args.layout
fit c = labels_fit_lem (omega arith) (liftable c.args.layout c.args.label c.requires)

found : (c : After-pick-first) → EntryOf c.args.layout c.args.label (c.pick-first.result + c.args.label % 256)
found c =
    let l = c.args.layout in
    let e : c.pick-first.result ≡ first_of l = c.pick-first.ensures ∙ ap (λ b. cond b (labels_of l - (2 + 2 * (l / 32768))) 0) c.is_stored.ensures in
    entry_of l c.args.label _ c.requires (ap (λ f. f + c.args.label % 256) e)

pub overflow_add-labels : goal.overflow_add-labels
overflow_add-labels c = record { fits = omega (arith, (fit c).square, (fit c).odds) }

pub overflow_sub-labels : goal.overflow_sub-labels
overflow_sub-labels c = (fit (goal.at.overflow_sub-labels c).Start).enough

pub returns : goal.returns
returns c = found c
