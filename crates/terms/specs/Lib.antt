-- What reading a term promises.
pub mod Reading
