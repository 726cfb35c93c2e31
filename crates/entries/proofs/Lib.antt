-- Laws of the functions, and what their answers mean.
pub mod TestLaws
pub mod SetLaws
pub mod FieldLaws
pub mod NeededLaws
pub mod HeldFields
pub mod KnownItems
pub mod HoleMeaning
pub mod Standings
pub mod NeededTokens
pub mod Meaning
