-- `plan::filing::file_tone` meets its contract, by the class.
use Prim.Native.Nat.{◌≤◌}
use mathlib.Core.Path.{refl}
use borrow.Author.Tests.{le-leb, lt-leb}
use native.Mathlib.Omega.{arith}
use Rattle.constellation.proofs.Layouts.{layout_at}
use Rattle.plan.proofs.Steps.{files_data, files_none, files_empty}
use Rattle.plan.proofs.filing.file_tone.Goals as goal

pub returns-then-bits-least : goal.returns-then-bits-least
returns-then-bits-least c =
    rw c.in-Data.is (files_none c.args.least c.args.at c.args.room.now _ (lt-leb c.args.least _ c.if-bits-least.true))

pub returns-else-bits-least : goal.returns-else-bits-least
returns-else-bits-least c =
    let n = c.requires.0 in
    let b = c.in-Data.bits in
    let h : (1 ≤ b) × (b ≤ 15) = rw c.in-Data.is at n.carries in
    rw c.in-Data.is
    (files_data c.args.least c.args.at c.args.room.now b _ (le-leb c.args.least b c.if-bits-least.false)
    (rw (c.requires.1, c.from.ensures) (layout_at b h.0 h.1))
    (omega (arith, n.place_most)) (omega (arith, n.place_most, n.entry_most)) (omega (arith, n.place_most, n.entry_most)))

pub returns-in-Monitored : goal.returns-in-Monitored
returns-in-Monitored c =
    let n = c.requires.0 in
    rw c.in-Monitored.is
    (files_empty c.args.least c.args.at c.args.room.now _ refl (lt-leb c.args.least 0 n.least_is) _ (rw c.requires.1)
    (omega (arith, n.place_most)) (omega (arith, n.place_most, n.drawing_most)) c.file_empty.ensures)

pub returns-in-Silent : goal.returns-in-Silent
returns-in-Silent c =
    let n = c.requires.0 in
    rw c.in-Silent.is
    (files_empty c.args.least c.args.at c.args.room.now _ refl (lt-leb c.args.least 0 n.least_is) _ (rw c.requires.1)
    (omega (arith, n.place_most)) (omega (arith, n.place_most, n.drawing_most)) c.file_empty-in-Silent.ensures)
