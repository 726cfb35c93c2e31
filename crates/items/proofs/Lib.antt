-- What the proofs of the functions rest on.
pub mod TermTable
pub mod OrderLaws
pub mod SaidMore
pub mod ItemLaws
pub mod ContentLaws
pub mod FieldLaws
pub mod FieldsLaws
pub mod TextLaws
