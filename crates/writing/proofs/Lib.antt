-- Laws of writing.
pub mod Denoting
pub mod WriteLaws
