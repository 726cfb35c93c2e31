-- What tokens and keys mean.
pub mod TokenParts
pub mod Levels
pub mod Codes
pub mod Reaching
pub mod KeyLaws
pub mod Owners
pub mod ProblemTokens
pub mod Spots
pub mod Examples
