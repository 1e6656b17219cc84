use native.Mathlib.Omega.{arith}
use Rattle.mapper.proofs.BlockLoops.{block_needs, block_step, cover_to, cover_end}
use Rattle.mapper.proofs.points.put_points.Goals as goal

pub put_block-requires : goal.put_block-requires
put_block-requires c =
    block_needs c.point_table-table.ensures c.requires c.loop-i.invariant c.block_end-end.ensures

pub loop-i-preserved : goal.loop-i-preserved
loop-i-preserved c =
    let same = c.put_block.auto in
    let e = c.block_end-end.ensures in
    cover_to (block_step c.point_table-table.ensures c.requires c.loop-i.invariant e c.put_block.new.entries same.xs same.ys same.entries c.put_block.ensures) (e.whole (omega arith))

pub returns-2 : goal.returns-2
returns-2 c =
    let same = c.put_block.auto in
    let e = c.block_end-end.ensures in
    cover_end (block_step c.point_table-table.ensures c.requires c.loop-i.invariant e c.put_block.new.entries same.xs same.ys same.entries c.put_block.ensures) (grind (arith, e.whole))
