-- The refusals by document 01's numbers.
pub mod Number
