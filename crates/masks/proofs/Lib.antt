-- Laws of masks and of node sets.
pub mod Cases
pub mod Marks
pub mod Nodes
pub mod Words
