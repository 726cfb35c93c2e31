-- What the search promises.
pub mod Calling
