-- The text of a row, from the tables.
pub mod Entries
pub mod Composing
