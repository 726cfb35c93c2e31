-- The checker.
pub mod Checking
