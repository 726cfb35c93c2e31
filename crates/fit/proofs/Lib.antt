-- Laws of the test of a row, and what it means.
pub mod CodeLaws
pub mod Steps
pub mod Ranks
pub mod Functions
pub mod Arguments
pub mod Applications
pub mod FacesMeaning
pub mod Meaning
pub mod Readiness
