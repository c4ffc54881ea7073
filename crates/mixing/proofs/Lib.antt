-- The laws of mixing.
mod Mixing
