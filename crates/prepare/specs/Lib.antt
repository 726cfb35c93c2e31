-- What preparing a problem promises.
pub mod Prepared
