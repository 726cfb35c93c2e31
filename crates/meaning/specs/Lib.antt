-- Document 01 as definitions, in its order. Those of the second part compute what the first part says, or say it in other words; the heading
-- of each names the theorem that makes it safe to skip.
-- Limits, and what the definitions share
pub mod Limits
pub mod Basics
-- Fields of a problem
pub mod Term
pub mod Scope
pub mod Equal
pub mod Problem
pub mod Read
-- Fillings
pub mod Shift
pub mod Filling
pub mod Solution
-- Faces, choices and rows
pub mod Face
pub mod Choice
pub mod Row
pub mod Accept
-- Solution texts
pub mod Value
pub mod Text
-- The search
pub mod Search
pub mod FullList
pub mod PlaceValue
-- The entry points, and lists of calls
pub mod Entry
pub mod Calls
pub mod Given
-- The program
pub mod Program
-- Two subexpressions compared, and nodes numbered, for T-02 and T-08 alone
pub mod Compare
-- The full solution set of source document 000, for T-12 alone
pub mod Textbook
-- The problem with the longest list, for T-13 alone
pub mod Longest
-- Computed forms
pub mod Field
pub mod Encoded
pub mod Same
pub mod ClosedTest
pub mod Lower
pub mod Choices
pub mod Rows
pub mod Candidate
pub mod Passing
pub mod Readable
-- The same in other words
pub mod Rename
pub mod Textual
pub mod Agree
pub mod Difference
-- Examples
pub mod Case
pub mod Starred
