pub mod Standing
pub mod Texts
pub mod Parsing
pub mod Readings
pub mod Rows
pub mod Examples
