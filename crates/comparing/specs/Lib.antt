-- What comparing two nodes of a problem promises, and what numbering them all does.
pub mod Comparing
pub mod NumberedNodes
