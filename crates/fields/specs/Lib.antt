-- What the functions of this crate promise: the answers on one field.
pub mod Heads
