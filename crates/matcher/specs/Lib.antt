-- What a host is promised.
pub mod Opened
