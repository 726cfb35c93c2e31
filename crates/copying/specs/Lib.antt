-- Terms copied out of a table as bytes.
pub mod Fixed
pub mod Copied
pub mod Measure
pub mod Answered
