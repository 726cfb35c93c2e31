-- The test of a row on the token tables.
pub mod Judging
pub mod Ready
pub mod Tables
pub mod Laid
