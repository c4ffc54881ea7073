pub mod Wrote
