pub mod Codebook
pub mod Ranges
pub mod Steps
pub mod Cases
