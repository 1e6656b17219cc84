-- Request R-12: `PairReport` has what a pair's report counts and what each call answers, `Calls` what any calls leave in it, `Words` what
-- else the theorems are stated with. `Lanes` is how the code counts wrong bits.
pub mod PairReport
pub mod Calls
pub mod Words
pub mod Lanes
