pub mod BitsAhead
pub mod Frames
pub mod Stores
pub mod Labels
pub mod Lowest
