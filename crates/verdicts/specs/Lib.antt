pub mod Verdicts
pub mod InOrder
pub mod Rows
