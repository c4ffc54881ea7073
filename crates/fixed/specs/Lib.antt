-- The definitions that the contracts cite, and the laws on them.
pub mod Fixed
pub mod Cases
pub mod Integers
pub mod Abs
pub mod Residue
pub mod Wrap
pub mod Quotients
pub mod Machine
pub mod Bounds
pub mod Sums
pub mod Shifts
pub mod Products
pub mod Halves
pub mod Division
pub mod Reciprocals
pub mod Clips
