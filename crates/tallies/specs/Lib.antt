pub mod Tally
pub mod Sublist
