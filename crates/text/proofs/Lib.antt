pub mod Judging
pub mod Accepted
pub mod RoundTrip
pub mod Values
pub mod Examples
pub mod Rows
pub mod ListingTrip
