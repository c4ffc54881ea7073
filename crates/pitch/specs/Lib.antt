pub mod Pitch
pub mod Lags
pub mod Kept
pub mod Reads
pub mod Buffered
pub mod Cases
pub mod Unclipped
