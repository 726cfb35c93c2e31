-- What reading a solution text promises.
pub mod Fields
pub mod Noted
pub mod Order
pub mod Texts
