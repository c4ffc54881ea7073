pub mod Small
pub mod Held
pub mod Runs
pub mod TableFile
pub mod Singles
pub mod Shelf
