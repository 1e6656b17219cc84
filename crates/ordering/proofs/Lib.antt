pub mod Runs
pub mod Placing
pub mod Written
pub mod Answers
