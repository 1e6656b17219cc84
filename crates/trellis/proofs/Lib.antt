pub mod Numbers
pub mod OnePair
pub mod Entries
pub mod CodeLoop
pub mod StepNumbers
pub mod FreePair
pub mod CodeAll
