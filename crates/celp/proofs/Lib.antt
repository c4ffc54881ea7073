mod Refusals
mod Coming
