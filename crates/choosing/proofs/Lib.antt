-- That the paths through the nodes of a problem's faces are the problem's choices and rows, in their order; and what the code needs to go
-- along them.
pub mod Lists
-- The choices of a face, and rows of masks
pub mod FaceNodes
pub mod Stepping
pub mod RowSteps
-- Those of a problem
pub mod ProblemFaces
pub mod Problem
-- The walk through a face's nodes
pub mod SetMarks
pub mod WalkLaws
pub mod FillLaws
pub mod TestLaws
pub mod NextLaws
