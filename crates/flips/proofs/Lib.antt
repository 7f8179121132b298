pub mod Xs
pub mod Putting
