pub mod Check
pub mod Told
pub mod Cases
