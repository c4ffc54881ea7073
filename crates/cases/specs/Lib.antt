pub mod MarkedCases
pub mod Differences
