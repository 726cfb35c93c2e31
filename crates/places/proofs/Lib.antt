-- What the functions of this crate do is what they promise, and what that means for a problem.
pub mod PlaceLaws
pub mod Naming
