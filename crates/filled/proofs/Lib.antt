-- The test on the tables is document 01's, and what its code owes.
pub mod Cases
pub mod Deciding
pub mod Moved
pub mod Across
pub mod Values
pub mod Arguments
pub mod Applications
pub mod Meaning
pub mod CodeLaws
