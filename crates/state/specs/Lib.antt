pub mod State
pub mod Start
pub mod Faults
