-- That the test of a row by its demands is document 01's.
pub mod Answers
pub mod DemandedSources
pub mod PlainSources
pub mod SlotKinds
pub mod Suiting
pub mod Holding
pub mod FilledFaces
pub mod Agreement
pub mod FitLaws
pub mod LowestNode
