-- The promises, and what they speak of: the functions that a host calls, and lists of their calls.
pub mod Called
pub mod Numbers
pub mod Lists
pub mod Promises
