-- `plain_mapper::read_point` meets its contract: the test of refusal 16, then the label of the plain rule, which is document 01's, or 13.
use Rattle.std.specs.Prelude.{Option, None, Some}
use Rattle.std.specs.Option.{ok_or}
use mathlib.Core.Path.{◌≡◌, refl, sym, ap, ◌∙◌}
use mathlib.Core.Logic.{inl, inr}
use native.Mathlib.Omega.{arith}
use Prim.Native.Nat.{ℕ}
use Rattle.g9932.specs.Answers.{labelled_of}
use Rattle.g9932.specs.Plain.{plain_label, plain_found}
use Rattle.g9932.specs.Sizes.{point}
use Rattle.g9932.specs.declared.Refusal.TheVariants.{Offgrid}
use Rattle.g9932.proofs.OneTone.{read_below, read_above}
use Rattle.plain_mapper.proofs.Steps.{read_as_lem}
use Rattle.plain_mapper.proofs.read_point.Goals as goal

answered : (f : Option ℕ) → labelled_of (ok_or f (Offgrid (record { 0 = 0 }))) ≡ plain_found f
answered None = refl
answered (Some l) = refl

pub returns-then-bits-lt1 : goal.returns-then-bits-lt1
returns-then-bits-lt1 c =
    let p = point c.args.p.x c.args.p.y in
    elim c.then-bits-lt1.either [ inl h ↦ sym (read_below c.args.bits p h) | inr h ↦ sym (read_above c.args.bits p h.1) ]

pub returns : goal.returns
returns c =
    let p = point c.args.p.x c.args.p.y in
    let is : c.plain_label.result ≡ plain_label c.args.bits p = c.plain_label.ensures in
    ap labelled_of c.ok_or.ensures.value ∙ answered c.plain_label.result ∙ sym (read_as_lem c.args.bits p c.plain_label.result (omega arith) (omega arith) is)
