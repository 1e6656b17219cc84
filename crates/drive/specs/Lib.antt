-- `Numbers`: what is driven at a place; `Peaks`: the peak, carried from place to place; `Blocks`: a symbol, block by block.
pub mod Numbers
pub mod Peaks
pub mod Blocks
