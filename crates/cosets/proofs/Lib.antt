pub mod Places
pub mod Spots
pub mod Regions
pub mod Cosets
pub mod Chosen
pub mod Labels
pub mod Shapes
