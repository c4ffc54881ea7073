pub mod Lent
pub mod Feed
pub mod Files
