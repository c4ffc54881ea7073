pub mod Feed
pub mod Late
