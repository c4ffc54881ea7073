pub mod Calls
pub mod Same
pub mod Sequences
