-- Choices of a face as the paths through its nodes.
pub mod Words
pub mod Paths
