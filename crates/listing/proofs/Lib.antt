-- The laws of the program's lines.
pub mod LineLaws
pub mod OutputLaws
