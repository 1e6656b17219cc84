-- What the code's contracts cite besides document 01's definitions: the tests that one pass makes together, what refusals 1 to 6 leave,
-- the counts, and what the mode makes of the tones.
pub mod Checks
pub mod Counted
pub mod Modes
