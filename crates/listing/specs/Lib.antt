-- What the program `readings` prints, line by line.
pub mod Listing
