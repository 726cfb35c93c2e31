-- What the functions of this crate promise, said of the token table of the patterns.
pub mod Survey
