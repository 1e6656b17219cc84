pub mod Widened
pub mod Reading
pub mod Layouts
pub mod MapByLayout
pub mod DemapByLayout
pub mod Stored
