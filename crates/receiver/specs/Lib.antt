pub mod Receiver
pub mod Order
pub mod Lines
pub mod RoundTrips
pub mod ReceivedFields
pub mod Calls
