mod Insertion
mod Spacing
