-- What programs share that answer a text line by line.
pub mod Lines
pub mod Room
pub mod Held
pub mod Machine
pub mod Reads
pub mod Told
pub mod Decimal
