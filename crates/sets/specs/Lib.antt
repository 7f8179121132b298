pub mod Pick
pub mod Lists
pub mod Tables
pub mod Bit
pub mod Size
pub mod Columns
pub mod Search
