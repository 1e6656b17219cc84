pub mod BitsAhead
pub mod Masks
pub mod Written
pub mod Labels
