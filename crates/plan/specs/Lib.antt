pub mod Plan
pub mod Classes
