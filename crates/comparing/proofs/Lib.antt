-- What comparing two nodes means, and what their numbers mean.
pub mod SharedLaws
pub mod Agreement
pub mod NodeTold
pub mod Meaning
pub mod NumberMeaning
pub mod Answering
