-- The laws that the proofs of the functions of `same` share.
pub mod Laws
