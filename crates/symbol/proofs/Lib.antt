pub mod Answers
pub mod TablePlan
pub mod PlannedInputs
pub mod WholeSymbol
pub mod RoundTrip
