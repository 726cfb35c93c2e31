-- What the proofs of the functions rest on, and what the answer of `read` says.
pub mod ProblemLaws
mod Examples
