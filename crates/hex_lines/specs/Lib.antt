pub mod Text
pub mod Held
pub mod Lengths
pub mod Stores
