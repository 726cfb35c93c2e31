-- What the functions of this crate promise, said of the token tables alone.
pub mod Check
pub mod First
pub mod FlatWalk
pub mod Recorded
pub mod Verdict
