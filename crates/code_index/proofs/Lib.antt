mod Classes
mod Digits
