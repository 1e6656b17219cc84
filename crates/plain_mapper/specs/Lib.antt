-- What the functions' own contracts need. The plain rule itself is in crate g9932, specs/Plain.antt.
pub mod Bounds
