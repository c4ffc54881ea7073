pub mod Room
pub mod Half
pub mod HalfSame
pub mod Frame
pub mod FrameSame
pub mod Calls
