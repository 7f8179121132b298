pub mod Writings
pub mod Rows
