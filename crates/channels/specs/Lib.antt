pub mod Apart
pub mod Relied
