-- The laws of what is printed.
pub mod PutLaws
pub mod DecimalLaws
