pub mod Limits
pub mod Layout
pub mod Hadamards
pub mod Listed
pub mod Example
