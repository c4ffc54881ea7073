pub mod Term
pub mod Steps
pub mod Feed
