-- The walk of two token tables, said of the tables alone, and what it records.
pub mod Walk
pub mod Recorded
pub mod Span
