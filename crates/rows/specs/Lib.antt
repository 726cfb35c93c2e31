-- Rows as sets of nodes.
pub mod Rows
pub mod Functions
