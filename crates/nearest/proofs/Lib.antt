pub mod Entries
pub mod PlanMeters
pub mod Laid
pub mod NearestPlan
pub mod NearestInputs
pub mod Ranges
pub mod PlannedReading
pub mod WholeNearest
