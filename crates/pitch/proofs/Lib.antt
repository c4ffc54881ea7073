mod Naturals
mod Fraction
