-- Where a term stands.
pub mod Site
