-- Laws of demands by the tests of the expressions' nodes, and what they mean.
pub mod KeptLaws
pub mod KeptMeaning
pub mod RecordedDemands
