-- Worked examples, computed from the definitions.
pub mod StarredExamples
pub mod WorkedExamples
