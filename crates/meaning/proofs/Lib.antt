-- The theorems about document 01's definitions.
pub mod Lists
-- Terms and their equality
pub mod ShiftLaws
pub mod Alike
pub mod Renaming
pub mod ViewLaws
-- Reading and encoding
pub mod ByteLaws
pub mod NodeReading
pub mod TermReading
pub mod ProblemReading
pub mod TextReading
-- Choices and rows
pub mod OrderLaws
pub mod Ordered
pub mod ChoiceLaws
pub mod Determined
pub mod Lowered
-- Solutions
pub mod Punching
pub mod Apart
pub mod BodyChoice
pub mod Lockstep
pub mod OneWay
pub mod AgreeLaws
pub mod Constraints
pub mod Proper
pub mod Slots
pub mod Sources
pub mod Candidate
pub mod RowBodies
pub mod Solutions
pub mod FullListLaws
-- Fields in number order, and texts that differ only in bound names
pub mod FieldOrder
pub mod AlphaTexts
-- The full solution set of source document 000 (T-12)
pub mod Unseen
pub mod CompleteLaws
pub mod IdleLaws
pub mod Gaps
pub mod SpareSymbol
pub mod MinimalLaws
pub mod TextbookLaws
-- Two subexpressions compared (T-02)
pub mod CompareLaws
-- Filling with names
pub mod TextualLaws
pub mod Spelling
pub mod Uncaught
pub mod NoCapture
-- Solution texts
pub mod Nodes
pub mod Sums
pub mod Weights
pub mod BodyLength
pub mod TextLaws
pub mod TextLength
pub mod SecondDemand
pub mod PassLaws
-- The search
pub mod PlaceLaws
-- The limit of a face's nodes raised (T-10)
pub mod OldLimit
pub mod OneCall
pub mod CallLaws
pub mod WriteLaws
pub mod EntryLaws
pub mod FitsNothing
pub mod GivenLaws
pub mod ProgramLaws
pub mod PrintedLaws
-- Examples
pub mod Computed
pub mod RefusalExamples
pub mod EntryExamples
pub mod CompareExamples
