-- `drive::blocks::drive_block` meets its contract: points, their numbers, and the peak after them.
use Rattle.drive.proofs.BlockNumbers.{numbers_need, block_driven}
use Rattle.drive.proofs.blocks.drive_block.Goals as goal

pub put_numbers-requires : goal.put_numbers-requires
put_numbers-requires c =
    numbers_need c.requires c.put_block.auto.xs c.put_block.auto.ys c.put_block.ensures

pub returns : goal.returns
returns c =
    block_driven c.requires c.put_block.auto.xs c.put_block.auto.ys c.put_block.ensures
    c.put_numbers.auto.xs c.put_numbers.auto.ys c.put_numbers.ensures c.peak_after.ensures
