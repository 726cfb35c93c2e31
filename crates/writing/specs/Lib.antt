-- Writing the text of a row.
pub mod Writing
