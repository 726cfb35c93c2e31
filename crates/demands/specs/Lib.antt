-- The test of a row, as code makes it: by walks alone, with no pattern filled.
pub mod Demand
pub mod Agreeing
pub mod Fit
pub mod LowestMark
