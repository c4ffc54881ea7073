pub mod Steps
pub mod Feed
