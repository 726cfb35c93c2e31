-- Laws of the functions, and what their answers mean.
pub mod FixedLaws
pub mod WriteLaws
pub mod CopiedBytes
pub mod SpanLaws
pub mod CopyLaws
pub mod MeasureLaws
pub mod CopiedMeaning
pub mod BodyLaws
