pub mod Grid
pub mod Nearest
pub mod Meters
