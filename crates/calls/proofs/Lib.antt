-- The calls made are lists of calls as `meaning` has them.
pub mod RunLaws
