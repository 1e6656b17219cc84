pub mod Products
pub mod Sizes
pub mod NumberLoop
pub mod Carrying
pub mod BlockNumbers
