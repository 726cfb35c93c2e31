-- Laws of numbers: what keys tell (KeyLevels, Scanning, Sums), which nodes are alike (AlikeLaws, Asked), how they are found (Buckets, Passing), and
-- that a problem's table can be numbered.
pub mod KeyLevels
pub mod Scanning
pub mod Sums
pub mod AlikeLaws
pub mod Asked
pub mod Buckets
pub mod Passing
pub mod ProblemTable
