pub mod Users
pub mod ByValue
pub mod Held
pub mod Worked
