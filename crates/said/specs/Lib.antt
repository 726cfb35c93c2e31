-- What a text says, as the checker holds it.
pub mod Said
