-- What the loops ask and do: frame to labels to points, and back.
pub mod Writing
pub mod Reading
pub mod Blocks
