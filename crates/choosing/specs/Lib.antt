-- The nodes of a face as paths know them, the walk through them, and rows as masks.
pub mod FaceNodes
pub mod Walk
pub mod Rows
