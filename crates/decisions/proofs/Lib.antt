pub mod Places
pub mod Selecting
pub mod Tracing
pub mod PathLabels
