pub mod Playback
pub mod Worked
pub mod Turns
pub mod Told
