-- `constellation::read_point` meets its contract: the test of refusal 16, then the label, or 13.
use Rattle.std.specs.Prelude.{Option, None, Some}
use Rattle.std.specs.Option.{option_map}
use mathlib.Core.Bool.{Bool}
use Rattle.g9932.specs.Answers.{OneTone, tone_done, tone_refused, label_found}
use mathlib.Core.List.{List}
use mathlib.Core.Logic.{inl, inr}
use mathlib.Core.Path.{◌≡◌, refl, sym, ap, ◌∙◌}
use Prim.Native.Nat.{ℕ}
use native.Mathlib.Omega.{arith}
use Rattle.g9932.specs.Bits.{num}
use Rattle.g9932.specs.Points.{label_of}
use Rattle.g9932.specs.Sizes.{point}
use Rattle.g9932.proofs.OneTone.{read_below, read_above, read_counted}
use Rattle.constellation.proofs.read_point.Goals as goal

-- the answer that a label, or none, makes
abbrev answer : Option ℕ → OneTone ℕ
answer (Some l) = tone_done l
answer None = tone_refused 13

answered : (o : Option (List Bool)) → answer (option_map num o) ≡ label_found o
answered (Some v) = refl
answered None = refl

pub returns-then-bits-lt1 : goal.returns-then-bits-lt1
returns-then-bits-lt1 c =
    let p = point c.args.p.x c.args.p.y in
    elim c.then-bits-lt1.either [ inl h ↦ sym (read_below c.args.bits p h) | inr h ↦ sym (read_above c.args.bits p h.1) ]

pub returns-in-Some : goal.returns-in-Some
returns-in-Some c =
    let p = point c.args.p.x c.args.p.y in
    let e = ap answer (sym c.in-Some.is ∙ c.label_of.ensures) in
    e ∙ answered (label_of c.args.bits p) ∙ sym (read_counted c.args.bits p (omega arith) (omega arith))

pub returns-in-None : goal.returns-in-None
returns-in-None c =
    let p = point c.args.p.x c.args.p.y in
    let e = ap answer (sym c.in-None.is ∙ c.label_of.ensures) in
    e ∙ answered (label_of c.args.bits p) ∙ sym (read_counted c.args.bits p (omega arith) (omega arith))
