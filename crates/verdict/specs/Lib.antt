pub mod Verdict
pub mod Worked
pub mod Same
pub mod Kept
pub mod Round
pub mod Length
pub mod Agreed
pub mod Differs
