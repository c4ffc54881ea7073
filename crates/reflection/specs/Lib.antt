-- The definitions that the contracts cite, their worked values, and the laws on them.
pub mod Reflection
pub mod Cases
pub mod Exponent
pub mod Zeros
