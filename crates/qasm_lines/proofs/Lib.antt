pub mod Spelt
pub mod Sizes
pub mod Placed
