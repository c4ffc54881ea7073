pub mod Sure
pub mod Again
pub mod AgainHalf
pub mod AgainFrame
