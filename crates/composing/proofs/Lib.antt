-- Laws of composing a text.
pub mod FieldLaws
pub mod EntryLaws
pub mod TextLaws
