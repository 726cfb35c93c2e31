-- Places and rows in words.
pub mod Words
pub mod Storing
