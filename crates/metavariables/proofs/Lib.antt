-- Laws of the sets, and what they say of a problem.
pub mod BitLaws
pub mod SurveyLaws
pub mod SurveyMeaning
