pub mod Bytes
pub mod Parts
pub mod Image
pub mod Signs
pub mod RoundTrips
pub mod Cases
