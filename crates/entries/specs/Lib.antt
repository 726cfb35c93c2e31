-- What the functions of this crate promise, said of what is held of a text and of the token tables.
pub mod Sets
pub mod Fields
pub mod Holes
pub mod Needed
