-- T-13: how long the list of (P(X), e) can be, for which e it is longest, and that problem written.
-- How many choices a face can have; (P(X), e) and its solutions; T-13's expression
pub mod SetCounts
pub mod Applied
pub mod EqualSymbols
pub mod LongestList
-- Its bytes, and what writes them
pub mod LongestBytes
pub mod LongestExamples
pub mod IntoLaws
pub mod LongestAccepted
pub mod CallLaws
pub mod WriteLaws
