pub mod Limits
pub mod Listing
pub mod Misfit
pub mod Parsing
pub mod Readings
