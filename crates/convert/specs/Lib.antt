pub mod Convert
pub mod Worked
pub mod Halves
pub mod Back
