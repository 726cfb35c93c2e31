-- Laws of the definitions of specs/, and what they say of a problem.
pub mod CheckLaws
pub mod CheckMeaning
pub mod FirstLaws
pub mod FirstMeaning
pub mod NodeTokens
pub mod WalkMeaning
pub mod ArgumentWalk
