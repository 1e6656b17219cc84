-- `frame::frame_refused` meets its contract: the start, the length, the first byte's bits before the start, and the last byte's after the
-- end.
use mathlib.Core.Path.{sym, ◌∙◌}
use native.Mathlib.Omega.{arith}
use Rattle.frame.proofs.Frames.{above_refused, length_refused, before_refused, after_refused}
use Rattle.frame.proofs.frame_refused.Goals as goal

pub returns-then-start_refused : goal.returns-then-start_refused
returns-then-start_refused c = let a = c.args in
    above_refused a.start a.l a.frame.now (sym c.start_refused.ensures ∙ c.if-start_refused.true)

pub returns-then-frame-bytes_for : goal.returns-then-frame-bytes_for
returns-then-frame-bytes_for c = let a = c.args in
    length_refused a.start a.l a.frame.now (sym c.start_refused.ensures ∙ c.if-start_refused.false)
    (λ e. c.if-frame-bytes_for.true (e ∙ sym c.bytes_for.ensures))

pub returns-then-get-ne0 : goal.returns-then-get-ne0
returns-then-get-ne0 c = let a = c.args in
    before_refused a.start a.l a.frame.now (sym c.start_refused.ensures ∙ c.if-start_refused.false)
    (c.if-frame-bytes_for.false ∙ c.bytes_for.ensures) (rw c.from.ensures at c.get.ensures) c.if-get-ne0.true

pub returns : goal.returns
returns c = let a = c.args in
    after_refused a.start a.l a.frame.now (sym c.start_refused.ensures ∙ c.if-start_refused.false)
    (c.if-frame-bytes_for.false ∙ c.bytes_for.ensures) (rw c.from.ensures at c.get.ensures) c.if-get-ne0.false
    _ _ c.byte_at.result (omega arith) (omega arith) c.byte_at.ensures c.byte_at.type_inv
