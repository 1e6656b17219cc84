-- Nearest reading between the plan of the tables and the answer.
pub mod Planned
