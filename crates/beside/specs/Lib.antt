pub mod Beside
pub mod Long
pub mod Spoken
pub mod Named
