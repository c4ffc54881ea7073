pub mod Repair
pub mod Worked
pub mod Look
pub mod Bytes
pub mod Laws
pub mod Looked
pub mod Texts
