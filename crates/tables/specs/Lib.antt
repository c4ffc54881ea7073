pub mod Places
pub mod Tables
pub mod Rules
pub mod Told
pub mod Sound
pub mod SoundWords
pub mod Bare
