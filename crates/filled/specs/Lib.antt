-- The test that each filled pattern equals its expression, on the token tables.
pub mod Filled
pub mod Ready
pub mod Grounded
