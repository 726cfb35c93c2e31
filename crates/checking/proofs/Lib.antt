-- Laws of the checker.
pub mod CheckLaws
