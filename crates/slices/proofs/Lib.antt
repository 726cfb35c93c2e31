-- The laws of parts of slices.
pub mod Slices
