pub mod Judging
pub mod Values
pub mod Fitting
pub mod Sizes
pub mod Rows
pub mod Written
pub mod RoundTrip
