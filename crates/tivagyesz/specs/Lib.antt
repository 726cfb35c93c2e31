-- What the C interface promises.
pub mod Exported
