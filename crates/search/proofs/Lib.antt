-- The search does what it promises.
pub mod RowsBack
pub mod CallLaws
