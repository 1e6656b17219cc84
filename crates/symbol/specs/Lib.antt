-- Between the plan of the tables and the passes over a symbol.
pub mod Inputs
