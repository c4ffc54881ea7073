mod Taps
mod Filter
mod Again
