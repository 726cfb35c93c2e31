-- What a list of calls promises.
pub mod Running
