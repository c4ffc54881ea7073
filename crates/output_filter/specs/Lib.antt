pub mod Postfilter
pub mod Sections
pub mod Blocks
