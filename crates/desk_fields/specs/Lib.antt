pub mod Fields
pub mod Calls
pub mod RoundTrips
pub mod Cases
