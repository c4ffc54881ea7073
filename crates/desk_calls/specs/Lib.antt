pub mod Desk
pub mod Cases
pub mod Images
pub mod FramesSame
pub mod Seeking
