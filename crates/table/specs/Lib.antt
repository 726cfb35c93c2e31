-- What reading a problem promises.
pub mod Whole
