-- Laws of the functions, and what their answers mean.
pub mod MarkLaws
pub mod ClosedLaws
pub mod SuitsLaws
pub mod BodyMeaning
pub mod MarkedWalk
pub mod HoleTests
pub mod SuitsMeaning
