-- The tokens of a problem, and what the functions of this crate promise of them.
pub mod Token
pub mod Key
