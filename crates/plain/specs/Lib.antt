pub mod Sums
pub mod Normal
pub mod Lsp
pub mod Zeros
pub mod Pitch
pub mod Postfilter
pub mod Synth
pub mod Mix
