pub mod Feeding
pub mod Lists
pub mod Bearing
pub mod Tables
pub mod Telling
pub mod Terms
pub mod Examples
