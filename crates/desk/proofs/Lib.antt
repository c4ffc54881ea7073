pub mod Outcomes
pub mod Seeks
