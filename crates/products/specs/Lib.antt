pub mod PlainSums
pub mod Runs
