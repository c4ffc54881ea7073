pub mod Gain
pub mod Sized
pub mod Ranges
pub mod Kept
