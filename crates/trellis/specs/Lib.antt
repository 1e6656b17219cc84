pub mod Coding
pub mod Pairs
pub mod Steps
