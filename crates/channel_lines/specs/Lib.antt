pub mod Channels
pub mod Put
pub mod Feed
pub mod Worked
