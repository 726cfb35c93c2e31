-- Laws of the walk, and what it is on the tables of two forests.
pub mod WalkLaws
pub mod WalkTrees
pub mod SlotWalk
pub mod SpanLaws
pub mod Answers
pub mod TokenDepths
pub mod LoweredWalk
