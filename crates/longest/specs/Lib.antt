-- Writing the problem with the longest list.
pub mod Writing
