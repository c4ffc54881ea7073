pub mod Forward
pub mod Gone
