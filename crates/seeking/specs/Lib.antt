-- Judging rows one after the other.
pub mod Seeking
