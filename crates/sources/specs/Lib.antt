-- Demands on the metavariables, one after the other, by the tests of the expressions' nodes.
pub mod Demand
pub mod Kept
