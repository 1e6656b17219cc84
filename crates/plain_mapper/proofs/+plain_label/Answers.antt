-- `plain_mapper::plain_label` meets its contract: the bit count falls by two (proofs/Steps).
use Rattle.std.specs.Prelude.{Option}
use Prim.Native.Nat.{ℕ, ◌-◌, ◌<◌}
use mathlib.Core.Path.{◌≡◌, sym, ap, ap₂, ◌∙◌, subst}
use native.Mathlib.Omega.{arith}
use Rattle.g9932.specs.Plain.{corner_of, low_label, of_block, fourfold, plain_label}
use Rattle.g9932.specs.Sizes.{point}
use Rattle.g9932.proofs.Plain.{small_labels}
use Rattle.plain_mapper.specs.Bounds.{Below}
use Rattle.plain_mapper.proofs.Steps.{larger, label_step, label_below, low_below}
use Rattle.plain_mapper.proofs.+plain_label.Goals as goal
use Rattle.plain_mapper.proofs.+plain_label.Goals.{After-plain_label, In_ok-k}

-- the label of the block, and the step
block : (t : ℕ) (c : After-plain_label t) → let p = point c.args.p.x c.args.p.y in
    (c.plain_label.result ≡ plain_label (c.args.b - 2) (of_block (corner_of p)))
    × (plain_label c.args.b p ≡ fourfold (plain_label (c.args.b - 2) (of_block (corner_of p))) (low_label p))
block t c =
    let n = sym c.smallest.ensures ∙ c.if-smallest.false in
    let h = larger c.args.b c.requires.0 n in (
      c.plain_label.ensures ∙ ap (plain_label (c.args.b - 2)) (c.of_block.ensures ∙ ap of_block c.corner_of-corner.ensures),
      label_step c.args.b (point c.args.p.x c.args.p.y) (omega (arith, h)) n,
    )

-- both are found
sizes : (t : ℕ) (c : In_ok-k t) → (c.in_ok-n.n < 32768) × (c.in_ok-k.k < 4)
sizes t c =
    let p = point c.args.p.x c.args.p.y in
    let h = larger c.args.b c.requires.0 (sym c.smallest.ensures ∙ c.if-smallest.false) in (
      subst (Below 32768) (sym (block t c.before.before.before.before.before).0 ∙ c.in_ok-n.was) (label_below (c.args.b - 2) (of_block (corner_of p)) (omega (arith, h)) (omega (arith, c.requires.1))),
      subst (Below 4) (sym c.low_label.ensures ∙ c.in_ok-k.was) (low_below p),
    )

pub returns-then-smallest : goal.returns-then-smallest
returns-then-smallest t c =
    c.small_label.ensures ∙ sym (small_labels c.args.b (sym c.smallest.ensures ∙ c.if-smallest.true) (point c.args.p.x c.args.p.y))

pub returns-in_err-n : goal.returns-in_err-n
returns-in_err-n t c =
    let b = block t (goal.at.returns-in_err-n t c).After-plain_label in
    let low = low_label (point c.args.p.x c.args.p.y) in
    c.from_residual.ensures ∙ ap (λ (f : Option ℕ). fourfold f low) (sym c.in_err-n.was ∙ b.0) ∙ sym b.1

pub returns-in_err-k : goal.returns-in_err-k
returns-in_err-k t c =
    let b = block t (goal.at.returns-in_err-k t c).After-plain_label in
    c.from_residual-in_err-k.ensures ∙ ap₂ fourfold (sym c.in_ok-n.was ∙ b.0) (sym c.in_err-k.was ∙ c.low_label.ensures) ∙ sym b.1

pub overflow_mul-result : goal.overflow_mul-result
overflow_mul-result t c = omega (arith, sizes t c)

pub overflow_add-result : goal.overflow_add-result
overflow_add-result t c = omega (arith, sizes t c)

pub returns : goal.returns
returns t c =
    let b = block t (goal.at.returns t c).After-plain_label in
    ap₂ fourfold (sym c.in_ok-n.was ∙ b.0) (sym c.in_ok-k.was ∙ c.low_label.ensures) ∙ sym b.1
