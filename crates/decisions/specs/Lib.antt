pub mod CostLists
-- What the labels of each place and of each entry cost, and the labels that are decided by it.
pub mod Entries
pub mod Deciding
