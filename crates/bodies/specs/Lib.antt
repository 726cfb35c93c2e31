-- One function with its mask by itself, said of the token table and of the tests of its nodes.
pub mod Marked
pub mod BodyClosed
pub mod Suits
