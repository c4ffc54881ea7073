pub mod Figures
pub mod Carried
pub mod Added
