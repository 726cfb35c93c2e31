-- The laws of a search call with the text of what it finds.
pub mod FindingLaws
