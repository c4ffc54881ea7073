pub mod HalfSame
pub mod FrameSame
pub mod Calls
