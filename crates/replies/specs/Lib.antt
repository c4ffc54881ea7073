pub mod Replies
pub mod Promised
