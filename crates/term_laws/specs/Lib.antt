pub mod Whole
pub mod Sums
pub mod Outcomes
pub mod Totals
pub mod Joined
pub mod FileWords
