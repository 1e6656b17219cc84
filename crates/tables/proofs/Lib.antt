pub mod Scans
pub mod Searches
pub mod Faults
pub mod Marks
pub mod Counting
pub mod Modes
pub mod Answers
