-- What a node set is.
pub mod Mask
pub mod Sets
