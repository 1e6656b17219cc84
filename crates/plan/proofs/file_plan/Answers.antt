-- `plan::file_plan` meets its contract: the tones filed, and the shared entries behind them, are the plan's lists.
use Prim.Native.Nat.{◌+◌, ◌/◌, ◌≤◌}
use mathlib.Core.Path.{refl}
use native.Mathlib.Omega.{arith}
use Rattle.plan.proofs.Whole.{plan_is, placed_count}
use Rattle.plan.proofs.file_plan.Goals as goal
use Rattle.plan.proofs.file_plan.Goals.{After-share_entries}

-- the entries, with those that are shared, are within the room
within : (c : After-share_entries) → c.file_tones-at.result.entry + c.args.frame.sharers / 2 ≤ 4096
within c =
    let g = rw c.least_own.ensures at c.file_tones-at.ensures in
    let t = c.args.t in
    let n = placed_count c.args.mode t.bits.now t.gains.now t.tones.now in
    omega (arith, g.place_is, g.entry_most, c.requires.sharers_are, c.requires.most)

drawn : (c : After-share_entries) → c.file_tones-at.result.drawing ≤ 4096
drawn c =
    let g = rw c.least_own.ensures at c.file_tones-at.ensures in
    let t = c.args.t in
    let n = placed_count c.args.mode t.bits.now t.gains.now t.tones.now in
    omega (arith, g.place_is, g.drawing_most, c.requires.most)

pub overflow_add-count : goal.overflow_add-count
overflow_add-count c = let h = within (goal.at.overflow_add-count c).After-share_entries in omega arith

pub shared_ref_as_front-result-2 : goal.shared_ref_as_front-result-2
shared_ref_as_front-result-2 c = within (goal.at.shared_ref_as_front-result-2 c).After-share_entries

pub shared_ref_as_front-result-3 : goal.shared_ref_as_front-result-3
shared_ref_as_front-result-3 c = within (goal.at.shared_ref_as_front-result-3 c).After-share_entries

pub shared_ref_as_front-result-4 : goal.shared_ref_as_front-result-4
shared_ref_as_front-result-4 c = drawn (goal.at.shared_ref_as_front-result-4 c).After-share_entries

pub returns : goal.returns
returns c =
    let g = rw c.least_own.ensures at c.file_tones-at.ensures in
    let t = c.args.t in
    plan_is c.args.mode t.bits.now t.gains.now t.tones.now c.args.frame.sharers c.file_tones-at.result c.file_tones-at.new.room c.share_entries.new.room _
    c.requires.sharers_are c.requires.even g (rw c.layout_table-table.ensures at c.share_entries.ensures) refl c.requires.size_is refl refl refl refl refl

pub share_entries-requires : goal.share_entries-requires
share_entries-requires c =
    let g = rw c.least_own.ensures at c.file_tones-at.ensures in
    let t = c.args.t in
    let n = placed_count c.args.mode t.bits.now t.gains.now t.tones.now in
    record { most = omega (arith, g.place_is, c.requires.sharers_are, c.requires.most); at_most = g.entry_most }
