-- What the functions of this crate do is what they promise.
pub mod PreparedLaws
