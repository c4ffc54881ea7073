mod Flipped
mod Loops
mod Whole
