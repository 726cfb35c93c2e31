-- What the search asks of the nodes of a table, and the numbers that answer it.
pub mod Tests
pub mod Alike
pub mod Numbering
