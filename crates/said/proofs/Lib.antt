-- What is held of a text says what the text says.
pub mod SaidLaws
