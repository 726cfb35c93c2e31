-- Reading and checking is acceptance.
pub mod AcceptanceLaws
