pub mod Frame
pub mod Named
pub mod Kept
pub mod Depends
pub mod Parts
