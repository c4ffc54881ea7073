pub mod Numbers
pub mod Lags
pub mod Sorted
