use native.Mathlib.Omega.{arith}
use mathlib.Core.Path.{refl, ap}
use lib.Ieee.{Float}
use lib.ListN.{length}
use Rattle.drive.proofs.BlockNumbers.{driven_start, driven_end, block_needs, block_step, driven_to}
use Rattle.drive.proofs.Sizes.{zero_is}
use Rattle.drive.proofs.blocks.drive_labels.Goals as goal

pub loop-i-init : goal.loop-i-init
loop-i-init c =
    driven_start c.requires refl refl refl (ap (λ (v : Float). record { size = v; place = record { 0 = length c.args.xs.now } }) zero_is)

pub drive_block-peak-requires : goal.drive_block-peak-requires
drive_block-peak-requires c =
    block_needs c.point_table-table.ensures c.requires c.loop-i.invariant c.block_end-end.ensures

pub loop-i-preserved : goal.loop-i-preserved
loop-i-preserved c =
    let new = c.drive_block-peak.new in
    let same = c.drive_block-peak.auto in
    let e = c.block_end-end.ensures in
    driven_to (e.whole (omega arith))
    (block_step c.point_table-table.ensures c.requires c.loop-i.invariant e new.entries new.points_x new.points_y same.xs same.ys same.entries same.points_x same.points_y c.drive_block-peak.ensures)

pub returns : goal.returns
returns c = driven_end c.requires c.loop-i.invariant (omega arith)

pub returns-2 : goal.returns-2
returns-2 c =
    let new = c.drive_block-peak.new in
    let same = c.drive_block-peak.auto in
    let e = c.block_end-end.ensures in
    driven_end c.requires
    (block_step c.point_table-table.ensures c.requires c.loop-i.invariant e new.entries new.points_x new.points_y same.xs same.ys same.entries same.points_x same.points_y c.drive_block-peak.ensures)
    (grind (arith, e.whole))
