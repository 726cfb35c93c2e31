-- What reading and checking promises.
pub mod Acceptance
