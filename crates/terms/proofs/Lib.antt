-- What the proofs of the functions rest on.
pub mod Bounds
pub mod Rows
pub mod TermLaws
