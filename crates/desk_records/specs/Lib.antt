pub mod Records
pub mod RoundTrips
