pub mod Core
pub mod Accepted
pub mod Figures
pub mod Kept
pub mod Depends
pub mod Clipped
