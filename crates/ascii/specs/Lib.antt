-- What is printed, in a buffer.
pub mod Put
